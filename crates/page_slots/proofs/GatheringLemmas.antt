-- The lists of callers come to one hand.
use Rattle.std.proofs.Common.{◌≡◌, ℕ, zero, suc, ◌<◌, List, [], ◌∷◌, ◌++◌, length, get_or, Some, refl, sym, ap, ◌∙◌, subst, arith, append_assoc}
use Rattle.std.proofs.lemmas.List.{append-nil}
use Rattle.std.specs.Prelude.{slice_get}
use Rattle.page_slots.specs.Inside.{listed_in, caller_of, IsCaller, IsListOf, AreListsOf}
use Rattle.page_slots.specs.Slots.{SlotsId, CallerState, MadeSlots, AreAll}
use Rattle.page_slots.specs.Closing.{HasJoined}
use Rattle.page_slots.specs.Steps.{Own, both}
use Rattle.page_slots.specs.declared.caller.Caller.TheInside as caller
use Rattle.page_slots.specs.Views.{free_with, list_of}
use Rattle.page_slots.specs.declared.view.AccessList.{AccessList}

-- the lists of two rows of callers
are-append : (ls ms : List AccessList) (cs ds : List CallerState) → AreListsOf ls cs → AreListsOf ms ds → AreListsOf (ls ++ ms) (cs ++ ds)
are-append [] ms [] ds a b = b
are-append [] ms (c ∷ cs) ds a b = absurd a
are-append (l ∷ ls) ms [] ds a b = absurd a
are-append (l ∷ ls) ms (c ∷ cs) ds a b = (a.0, are-append ls ms cs ds a.1 b)

-- the list of one caller
own_list : (a : caller.Inside) (x : CallerState) → caller_of a ≡ x → IsListOf (list_of a.number (listed_in a.hand.me.0.lists)) x
own_list a x is = record { number = ap (λ (y : CallerState). y.number) is; mine = ap (λ (y : CallerState). y.mine) is }

-- one caller's list more
pub joined-more : (before : List AccessList) (done : List CallerState) (a : caller.Inside) (x : CallerState) (m m' : Own) → HasJoined before done m → caller_of a ≡ x → IsCaller a → m' ≡ (both m.0 a.hand.me.0, m.1) → HasJoined before (done ++ x ∷ []) m'
joined-more before done a x m m' joined is own now =
    let mine = list_of a.number (listed_in a.hand.me.0.lists) in record {
      lists = joined.lists ++ mine ∷ [];
      are = are-append joined.lists (mine ∷ []) done (x ∷ []) joined.are (own_list a x is, tt);
      me = now ∙ (λ i. (both (joined.me i).0 (own.list i).0, (joined.me i).1)) ∙ ap (λ ls. (free_with ls, [])) (append_assoc before joined.lists (mine ∷ []));
    }

-- none has joined yet
pub joined-none : (before : List AccessList) (m : Own) → m ≡ (free_with before, []) → HasJoined before [] m
joined-none before m is = record { lists = []; are = tt; me = is ∙ ap (λ ls. (free_with ls, [])) (sym (append-nil before)) }

-- all have joined the first
pub all_joined : (first : caller.Inside) (x : CallerState) (others callers : List CallerState) (m : Own) → caller_of first ≡ x → IsCaller first → callers ≡ x ∷ others → HasJoined first.hand.me.0.lists others m
    → (ls : List AccessList) × AreListsOf ls callers × (m.0 ≡ free_with ls)
all_joined first x others callers m is own all joined = (
  list_of first.number (listed_in first.hand.me.0.lists) ∷ joined.lists,
  subst (AreListsOf (list_of first.number (listed_in first.hand.me.0.lists) ∷ joined.lists)) (sym all) (own_list first x is, joined.are),
  ap (λ (y : Own). y.0) joined.me ∙ ap (λ (y : Own). free_with (y.0.lists ++ joined.lists)) own.list,
)

-- all callers are of the slots
pub others_are : (made : MadeSlots) (table : SlotsId) (callers others : List CallerState) (x : CallerState) → AreAll made callers → callers ≡ x ∷ others → made.id ≡ table → (k : ℕ) (d : CallerState) → k < length others → (get_or others k d).slots ≡ table
others_are made table callers others x all is same k d less = (all.each (suc k) (get_or others k d) (ap (λ l. slice_get l (suc k)) is ∙ got others k d less)).0 ∙ same
  where
    got : (l : List CallerState) (k : ℕ) (d : CallerState) → k < length l → slice_get l k ≡ Some (get_or l k d)
    got [] k d less = absurd (omega arith)
    got (y ∷ ys) zero d less = refl
    got (y ∷ ys) (suc k) d less = got ys k d (omega arith)

pub first_is_of : (made : MadeSlots) (table : SlotsId) (callers others : List CallerState) (x : CallerState) (a : caller.Inside) → AreAll made callers → callers ≡ x ∷ others → made.id ≡ table → caller_of a ≡ x → a.hand.table_id ≡ table
first_is_of made table callers others x a all is same seen = ap (λ (y : CallerState). y.slots) seen ∙ (all.each 0 x (ap (λ l. slice_get l 0) is)).0 ∙ same
