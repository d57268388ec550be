-- The texts of items, as far as they are put.
use Rattle.std.proofs.Common.{◌≡◌, ℕ, ◌+◌, ◌<◌, List, ◌∷◌, [], ◌++◌, length, get_or, drop, ap, sym, ◌∙◌, subst, append_assoc, add-one, drop-cons, arith, Err}
use Rattle.std.proofs.lemmas.List.{append-nil, drop_all}
use Rattle.outside_io.specs.declared.sink.SinkFault.{SinkFault}
use Rattle.outside_io.specs.Pieces.{PiecesJoin}
use Rattle.outside_io.specs.Writing.{SinkView, Took, Puts}
use Rattle.run_report.specs.Report.{numbered}

-- what was put, with the texts of the items that are left, is the whole text
pub record WrittenSoFar {A : Type 0} (text_of : ℕ → A → List ℕ) (old now : SinkView) (number : ℕ) (items : List A) : Type 0 where
  pub text : List ℕ
  pub took : Took old now text
  pub rest : text ++ numbered text_of number (drop number items) ≡ numbered text_of 0 items

module _ (join : PiecesJoin) {A : Type 0} (text_of : ℕ → A → List ℕ) (old now new : SinkView) (number : ℕ) (items : List A) (item : A) (there : number < length items) (is : item ≡ get_or items number item) where
  -- the text of the next item and of those behind it
  texts-next : text_of number item ++ numbered text_of (number + 1) (drop (number + 1) items) ≡ numbered text_of number (drop number items)
  texts-next =
      let next : drop number items ≡ get_or items number item ∷ drop (number + 1) items = rw add-one (drop-cons items number item there) in
      ap (λ (x : A). text_of number x ++ numbered text_of (number + 1) (drop (number + 1) items)) is ∙ sym (ap (numbered text_of number) next)

  pub WrittenSoFar-next : WrittenSoFar text_of old now number items → Took now new (text_of number item) → WrittenSoFar text_of old new (number + 1) items
  WrittenSoFar-next far took = record {
    text = far.text ++ text_of number item;
    took = join.taken old now new far.text (text_of number item) far.took took;
    rest = append_assoc far.text (text_of number item) (numbered text_of (number + 1) (drop (number + 1) items))
        ∙ ap (λ (xs : List ℕ). far.text ++ xs) texts-next
        ∙ far.rest;
  }

  -- the output stopped at an item's text
  pub Puts-within : (fault : SinkFault) → WrittenSoFar text_of old now number items → Puts now new (text_of number item) (Err fault) → Puts old new (numbered text_of 0 items) (Err fault)
  Puts-within fault far stopped =
      let others = numbered text_of (number + 1) (drop (number + 1) items) in
      let whole : far.text ++ (text_of number item ++ others) ≡ numbered text_of 0 items = ap (λ (xs : List ℕ). far.text ++ xs) texts-next ∙ far.rest in
      subst (λ (xs : List ℕ). Puts old new xs (Err fault)) whole
      (join.behind old now new far.text (text_of number item ++ others) (Err fault) far.took (join.stopped now new (text_of number item) others fault stopped))

-- all texts are put
pub Took-all : {A : Type 0} (text_of : ℕ → A → List ℕ) (old now : SinkView) (number : ℕ) (items : List A) → length items ≡ number → WrittenSoFar text_of old now number items → Took old now (numbered text_of 0 items)
Took-all {A} text_of old now number items all far =
    let none : drop number items ≡ [] = drop_all number items (omega arith) in
    let whole : far.text ≡ numbered text_of 0 items = sym (append-nil far.text) ∙ ap (λ (xs : List A). far.text ++ numbered text_of number xs) (sym none) ∙ far.rest in
    subst (λ (xs : List ℕ). Took old now xs) whole far.took
