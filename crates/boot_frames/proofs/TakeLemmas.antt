-- The frames of one claim after another.
use Rattle.std.proofs.Common.{◌≡◌, ◌*◌, ◌<◌, List, [], ◌∷◌, ◌++◌, None, refl, sym, ap, ◌∙◌, subst, arith}
use Rattle.std.specs.Prelude.{All}
use Rattle.std.proofs.lemmas.List.Elements.{All-nil, All-cons, All-weaker}
use Rattle.base_words.specs.declared.frame.Frame.{Frame}
use Rattle.node_frames.specs.Layout.{Layout}
use Rattle.frame_words.specs.Holders.{MadeTable}
use Rattle.frame_words.specs.declared.terms.Terms.{Terms}
use Rattle.frame_words.specs.declared.view.View.{View}
use Rattle.node_frames.specs.Places.{FitsShape}
use Rattle.node_frames.specs.Left.{Left, left_of}
use Rattle.boot_frames.specs.Claims.{home_of}
use Rattle.boot_frames.specs.Chain.{after_claim, after_claims, first_short}
use Rattle.boot_frames.specs.Lots.{IsNew, AreTaken}
use Rattle.boot_frames.specs.Gains.{GainsAll}
use Rattle.boot_frames.specs.Takings.{OnlyTook, Fills, TakesFor, TakesForAll, TakesAll}
use Rattle.boot_frames.specs.Givings.{IsCountable}
use Rattle.boot_frames.specs.declared.claims.Claim.{Claim}
use Rattle.boot_frames.specs.declared.taken.Taken.{Taken}
use Rattle.boot_frames.proofs.ChainLemmas.{chain-append, after_claims-push}
use Rattle.boot_frames.proofs.GainLemmas.{has_nothing, has_more}

takes-push : (terms : Terms) (layout : Layout) (left : Left) (ns : List Claim) (ts : List Taken) (n : Claim) (t : Taken) → TakesForAll terms layout left ns ts → TakesFor terms layout (after_claims layout ns left) n t
    → TakesForAll terms layout left (ns ++ n ∷ []) (ts ++ t ∷ [])
takes-push terms layout left [] [] n t all one = (one, tt)
takes-push terms layout left [] (u ∷ ts) n t all one = absurd all
takes-push terms layout left (m ∷ ns) [] n t all one = absurd all
takes-push terms layout left (m ∷ ns) (u ∷ ts) n t all one = (all.0, takes-push terms layout (after_claim layout m left) ns ts n t all.1 one)

pub takes_none : (table : MadeTable) (layout : Layout) (v : View) → OnlyTook table.terms layout v → TakesAll table layout [] [] v v
takes_none table layout v only = record { none = refl; taken = tt; has = has_nothing layout v; after = refl; only = only }

pub takes_more : (table : MadeTable) (layout : Layout) (ns : List Claim) (ts : List Taken) (n : Claim) (t : Taken) (v m w : View) → TakesAll table layout ns ts v m
    → first_short layout (n ∷ []) (left_of layout table.terms.lends m) ≡ None → t.home.0 ≡ home_of layout n.taker → Fills table layout n t.frames m w
    → TakesAll table layout (ns ++ n ∷ []) (ts ++ t ∷ []) v w
takes_more table layout ns ts n t v m w a none at f =
    let left = left_of layout table.terms.lends v in
    let one : TakesFor table.terms layout (after_claims layout ns left) n t =
    record { home = at; few = f.few; frames = subst (λ (l : Left). AreTaken table.terms layout l n t.frames) a.after f.taken } in record {
      none = chain-append layout ns (n ∷ []) left a.none ∙ ap (first_short layout (n ∷ [])) (sym a.after) ∙ none;
      taken = takes-push table.terms layout left ns ts n t a.taken one;
      has = λ empty. has_more layout ts t m w (a.has empty) (subst (λ h. GainsAll layout h t.frames m w) (sym at) f.gains);
      after = f.after ∙ ap (after_claim layout n) a.after ∙ sym (after_claims-push layout ns n left);
      only = f.only;
    }

-- a claim's frames lie within the table
taken_countable : (table : MadeTable) (layout : Layout) (left : Left) (n : Claim) (t : Taken) → FitsShape table layout → TakesFor table.terms layout left n t → IsCountable layout t
taken_countable table layout left n t fits f = record {
  few = (let c = f.frames.count in let few = f.few in omega arith);
  within = All-weaker (IsNew table.terms) (λ (x : Frame). x.number.0 < layout.nodes * layout.frames) (λ x new. let w = new.within in let all = fits.frames in omega arith) t.frames f.frames.new;
}

pub all_countable : (table : MadeTable) (layout : Layout) (left : Left) (ns : List Claim) (ts : List Taken) → FitsShape table layout → TakesForAll table.terms layout left ns ts → All (IsCountable layout) ts
all_countable table layout left [] [] fits all = All-nil (IsCountable layout)
all_countable table layout left [] (t ∷ ts) fits all = absurd all
all_countable table layout left (n ∷ ns) [] fits all = absurd all
all_countable table layout left (n ∷ ns) (t ∷ ts) fits all = All-cons (IsCountable layout) t ts (taken_countable table layout left n t fits all.0) (all_countable table layout (after_claim layout n left) ns ts fits all.1)
