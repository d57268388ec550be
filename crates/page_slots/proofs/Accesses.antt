-- A caller with one access more.
use Rattle.std.proofs.Common.{◌≡◌, ℕ, ◌+◌, List, [], ◌∷◌, ◌++◌, length, None, refl, ap, sym, ◌∙◌, arith}
use Rattle.std.proofs.lemmas.List.{length_push}
use Rattle.std.specs.Prelude.{min}
use Rattle.page_slots.specs.declared.access.Entry.{Entry}
use Rattle.page_slots.specs.declared.view.AccessList.{AccessList}
use Rattle.page_slots.specs.declared.view.ListedAccess.{ListedAccess}
use Rattle.page_slots.specs.declared.caller.Caller.TheInside.{Inside}
use Rattle.page_slots.specs.Inside.{accesses_in, listed_in, caller_of, IsCaller}
use Rattle.page_slots.specs.Slots.{SlotsId, CallerState, with_access}
use Rattle.page_slots.specs.Steps.{Own, IsPut}
use Rattle.page_slots.specs.Views.{free_with, holding, list_of, listed, noted}

accesses-longer : (xs : List ListedAccess) (y : ListedAccess) → accesses_in (xs ++ y ∷ []) ≡ accesses_in xs ++ y.access ∷ []
accesses-longer [] y = refl
accesses-longer (x ∷ xs) y = ap (λ l. x.access ∷ l) (accesses-longer xs y)

-- a caller held a page, and the entry was put
module _ (a : Inside) (own : IsCaller a) (e : Entry) (page : ℕ) (kept : List Entry) (held now : Own) (has : held ≡ (holding page kept a.hand.me.0, (page, None) ∷ [])) (put : IsPut e held now) where
  -- its accesses, with their places
  places : List ListedAccess
  places = listed_in a.hand.me.0.lists ++ listed put.place e.access ∷ []

  lists-noted : noted (listed put.place e.access) held.0.lists ≡ list_of a.number places ∷ []
  unfolding places
  lists-noted = ap (λ (m : Own). noted (listed put.place e.access) m.0.lists) has ∙ ap (λ (m : Own). noted (listed put.place e.access) m.0.lists) own.list

  lists-now : now.0.lists ≡ list_of a.number places ∷ []
  lists-now = ap (λ (m : Own). m.0.lists) put.me ∙ lists-noted

  mine-now : accesses_in (listed_in now.0.lists) ≡ accesses_in (listed_in a.hand.me.0.lists) ++ e.access ∷ []
  unfolding places
  mine-now = ap (λ (ls : List AccessList). accesses_in (listed_in ls)) lists-now ∙ accesses-longer (listed_in a.hand.me.0.lists) (listed put.place e.access)

  -- contracts see it with the access
  pub caller-longer : (number : ℕ) (slots : SlotsId) (v : CallerState) → caller_of a ≡ v → number ≡ a.number → slots ≡ a.hand.table_id
      → record { slots = slots; number = number; mine = accesses_in (listed_in now.0.lists) } ≡ with_access v e.access
  caller-longer number slots v is same table = (λ i. record { slots = table i; number = same i; mine = mine-now i }) ∙ ap (λ (x : CallerState). with_access x e.access) is

  -- its list is still alone, and the access is counted
  pub still-caller : (b : Inside) → b.hand.me ≡ now → b.number ≡ a.number → b.made ≡ min (a.made + 1) 18446744073709551615 → IsCaller b
  still-caller b me same counted =
      let long : length (accesses_in (listed_in b.hand.me.0.lists)) ≡ length (accesses_in (listed_in a.hand.me.0.lists)) + 1 =
      ap (λ (m : Own). length (accesses_in (listed_in m.0.lists))) me ∙ ap length mine-now ∙ length_push (accesses_in (listed_in a.hand.me.0.lists)) e.access in
      let before = own.made in record {
        list = me ∙ put.me ∙ ap (λ ls. (free_with ls, [])) (lists-noted ∙ own-list b me same);
        made = counted ∙ ap (λ n. min (n + 1) 18446744073709551615) before ∙ min-twice (length (accesses_in (listed_in a.hand.me.0.lists))) ∙ ap (λ n. min n 18446744073709551615) (sym long);
      }
    where
      own-list : (b : Inside) → b.hand.me ≡ now → b.number ≡ a.number → list_of a.number places ∷ [] ≡ list_of b.number (listed_in b.hand.me.0.lists) ∷ []
      own-list b me same = λ i. list_of (sym same i) (sym (ap (λ (m : Own). listed_in m.0.lists) me ∙ ap listed_in lists-now) i) ∷ []

      min-twice : (n : ℕ) → min (min n 18446744073709551615 + 1) 18446744073709551615 ≡ min (n + 1) 18446744073709551615
      min-twice n = omega arith
