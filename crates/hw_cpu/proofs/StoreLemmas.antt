-- After a store all halves serve that served before.
use Rattle.std.proofs.Common.{◌≡◌, ◌⊎◌, inl, inr, ℕ, ◌<◌, ◌%◌, ◌==◌, if◌then◌else◌, Bool, true, false, List, [], ◌∷◌, length, map, get_or, set, refl, sym, ap, ◌∙◌, subst, length-set, get_or-set_same, get_or-set_other, eq-eqb, arith}
use Rattle.std.proofs.lemmas.Bool.{cases_eq}
use Rattle.base_words.specs.Memory.{with_word}
use Rattle.base_words.specs.Halves.{Half}
use Rattle.private_machine.specs.Links.{word_offset}
use Rattle.private_machine.specs.Backing.{Held, Copy, Page, no_page, page_at, copies, has_frame, with_bytes, stored_in, stored_through}
use Rattle.private_machine.specs.Reaching.{Reached}
use Rattle.private_machine.specs.DirectAccess.{stored_at}
use Rattle.private_machine.specs.Serving.{Backs, BacksAlone, Serves, AllServe}

-- a page whose master has other bytes
record IsLike (g g' : Page) : Type 0 where
  pub frame : g'.master.frame ≡ g.master.frame
  pub shared : g'.shared ≡ g.shared
  pub replicas : g'.replicas ≡ g.replicas

stored-like : (g : Page) (frame offset word : ℕ) → g.master.frame ≡ frame → IsLike g (stored_through g frame offset word)
stored-like g frame offset word is =
    subst (λ b. IsLike g (if b then record g { master = with_bytes (with_word g.master.bytes offset word) g.master } else record g { replicas = stored_in g.replicas frame offset word })) (sym (eq-eqb g.master.frame frame is)) (record { frame = refl; shared = refl; replicas = refl })

like-self : (g : Page) → IsLike g g
like-self g = record { frame = refl; shared = refl; replicas = refl }

-- each page is like it was
page-like : (pages : List Page) (q p : ℕ) (g' : Page) → q < length pages → IsLike (page_at pages q) g' → IsLike (page_at pages p) (page_at (set pages q g') p)
page-like pages q p g' there like = elim (cases_eq p q) [
  | inl same ↦ subst (λ i. IsLike (page_at pages i) (page_at (set pages q g') i)) (sym same) (subst (IsLike (page_at pages q)) (sym (get_or-set_same pages q g' no_page there)) like)
  | inr other ↦ subst (IsLike (page_at pages p)) (sym (get_or-set_other pages q p g' no_page other)) (like-self (page_at pages p))
]

has-like : (g g' : Page) (frame : ℕ) → IsLike g g' → has_frame (copies g') frame ≡ has_frame (copies g) frame
has-like g g' frame like = λ i. if like.frame i == frame then true else has_frame (like.replicas i) frame

backs-like : (h h' : Held) (p frame : ℕ) → length h'.pages ≡ length h.pages → IsLike (page_at h.pages p) (page_at h'.pages p) → Backs h p frame → Backs h' p frame
backs-like h h' p frame long like b =
    let within = b.within in
    record { low = b.low; within = omega (arith, long, within); is_there = has-like (page_at h.pages p) (page_at h'.pages p) frame like ∙ b.is_there }

alone-like : (h h' : Held) (p frame : ℕ) → length h'.pages ≡ length h.pages → IsLike (page_at h.pages p) (page_at h'.pages p) → BacksAlone h p frame → BacksAlone h' p frame
alone-like h h' p frame long like b =
    let within = b.within in
    record { low = b.low; within = omega (arith, long, within); is_master = like.frame ∙ b.is_master; own = like.shared ∙ b.own; single = like.replicas ∙ b.single }

all-like : (h h' : Held) (halves : List Half) → length h'.pages ≡ length h.pages → ((p : ℕ) → IsLike (page_at h.pages p) (page_at h'.pages p)) → AllServe h halves → AllServe h' halves
all-like h h' [] long like all = tt
all-like h h' (half ∷ halves) long like all =
    ((backs-like h h' half.page half.frame long (like half.page) all.0.0, λ w. alone-like h h' half.page half.frame long (like half.page) (all.0.1 w)), all-like h h' halves long like all.1)

pub stored-serves : (v : ℕ) (at : Reached) (address word : ℕ) (h : Held) (halves : List Half) → BacksAlone h at.page at.frame → AllServe h halves → AllServe (stored_at v at address word h) halves
stored-serves v at address word h halves alone all =
    let g' = stored_through (page_at h.pages at.page) at.frame (word_offset (address % 4096)) word in
    all-like h (stored_at v at address word h) halves (length-set h.pages at.page g')
    (λ p. page-like h.pages at.page p g' alone.within (stored-like (page_at h.pages at.page) at.frame (word_offset (address % 4096)) word alone.is_master)) all
