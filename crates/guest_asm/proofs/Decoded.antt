-- What the word of each row's instruction is decoded as.
use Rattle.std.proofs.Common.{◌≡◌, ℕ, Bool, true, false, cond, List, [], ◌∷◌, Option, Some, None, refl, ap, subst, lit<}
use Rattle.std.specs.Str.{bytes_eq}
use Rattle.base_words.specs.declared.instr.AluOp.TheVariants.{Add, AddUnsigned, Subtract, SubtractUnsigned, And, Or, Xor, Nor, SetLess, SetLessUnsigned}
use Rattle.base_words.specs.declared.instr.ShiftOp.TheVariants.{Left, RightLogical, RightArithmetic}
use Rattle.base_words.specs.declared.instr.MulOp.TheVariants.{Multiply, MultiplyUnsigned, Divide, DivideUnsigned}
use Rattle.base_words.specs.declared.instr.Cond.TheVariants.{Equal, NotEqual, Less, LessUnsigned, GreaterOrEqual, GreaterOrEqualUnsigned}
use Rattle.base_words.specs.declared.instr.Half.TheVariants.{Hi, Lo}
use Rattle.base_words.specs.declared.instr.LoadKind.TheVariants as loaded
use Rattle.base_words.specs.declared.instr.StoreKind.TheVariants as stored
use Rattle.base_words.specs.declared.instr.Untaken.TheVariants.{Slot, PastSlot}
use Rattle.guest_asm.specs.declared.mnemonics.Form.{Form}
use Rattle.guest_asm.specs.declared.mnemonics.Operation.{Operation}
use Rattle.guest_asm.specs.Mnemonics.{Row, mnemonics, row_in, row_named}
use Rattle.guest_asm.specs.Decoding.{IsDecoded, AllAreDecoded}
use Rattle.guest_asm.proofs.DecodedGroups.{shift, shift-variable, jump-register, jump-and-link-register, move-from, move-to, mul-div, alu, trap, branch, alu-immediate, load-upper, load, store, load-linked, store-conditional, blez, bgtz, bltz, bgez, branch-and-link, trap-immediate, jump-to, jump-and-link, move-from-cp0, move-to-cp0}

-- what holds of each row's operation
AllRows : List Row → Type 0
AllRows [] = Unit {0}
AllRows (row ∷ rows) = IsDecoded row.2 × AllRows rows

rows : AllRows mnemonics
unfolding mnemonics AllRows
rows = (
  shift Left 0 (lit< tt) refl refl,
  (
    shift RightLogical 2 (lit< tt) refl refl,
    (
      shift RightArithmetic 3 (lit< tt) refl refl,
      (
        shift-variable Left 4 (lit< tt) refl refl,
        (
          shift-variable RightLogical 6 (lit< tt) refl refl,
          (
            shift-variable RightArithmetic 7 (lit< tt) refl refl,
            (
              jump-register 8 (lit< tt) refl refl,
              (
                jump-and-link-register 9 (lit< tt) refl refl,
                (
                  λ f n r. refl,
                  (
                    λ f n r. refl,
                    (
                      λ f n r. refl,
                      (
                        move-from Hi 16 (lit< tt) refl refl,
                        (
                          move-to Hi 17 (lit< tt) refl refl,
                          (
                            move-from Lo 18 (lit< tt) refl refl,
                            (
                              move-to Lo 19 (lit< tt) refl refl,
                              (
                                mul-div Multiply 24 (lit< tt) refl refl,
                                (
                                  mul-div MultiplyUnsigned 25 (lit< tt) refl refl,
                                  (
                                    mul-div Divide 26 (lit< tt) refl refl,
                                    (
                                      mul-div DivideUnsigned 27 (lit< tt) refl refl,
                                      (
                                        alu Add 32 (lit< tt) refl refl,
                                        (
                                          alu AddUnsigned 33 (lit< tt) refl refl,
                                          (
                                            alu Subtract 34 (lit< tt) refl refl,
                                            (
                                              alu SubtractUnsigned 35 (lit< tt) refl refl,
                                              (
                                                alu And 36 (lit< tt) refl refl,
                                                (
                                                  alu Or 37 (lit< tt) refl refl,
                                                  (
                                                    alu Xor 38 (lit< tt) refl refl,
                                                    (
                                                      alu Nor 39 (lit< tt) refl refl,
                                                      (
                                                        alu SetLess 42 (lit< tt) refl refl,
                                                        (
                                                          alu SetLessUnsigned 43 (lit< tt) refl refl,
                                                          (
                                                            trap GreaterOrEqual 48 (lit< tt) refl refl,
                                                            (
                                                              trap GreaterOrEqualUnsigned 49 (lit< tt) refl refl,
                                                              (
                                                                trap Less 50 (lit< tt) refl refl,
                                                                (
                                                                  trap LessUnsigned 51 (lit< tt) refl refl,
                                                                  (
                                                                    trap Equal 52 (lit< tt) refl refl,
                                                                    (
                                                                      trap NotEqual 54 (lit< tt) refl refl,
                                                                      (
                                                                        bltz Slot 0 (lit< tt) refl refl,
                                                                        (
                                                                          bgez Slot 1 (lit< tt) refl refl,
                                                                          (
                                                                            bltz PastSlot 2 (lit< tt) refl refl,
                                                                            (
                                                                              bgez PastSlot 3 (lit< tt) refl refl,
                                                                              (
                                                                                trap-immediate GreaterOrEqual 8 (lit< tt) refl refl,
                                                                                (
                                                                                  trap-immediate GreaterOrEqualUnsigned 9 (lit< tt) refl refl,
                                                                                  (
                                                                                    trap-immediate Less 10 (lit< tt) refl refl,
                                                                                    (
                                                                                      trap-immediate LessUnsigned 11 (lit< tt) refl refl,
                                                                                      (
                                                                                        trap-immediate Equal 12 (lit< tt) refl refl,
                                                                                        (
                                                                                          trap-immediate NotEqual 14 (lit< tt) refl refl,
                                                                                          (
                                                                                            branch-and-link Less Slot 16 (lit< tt) refl refl,
                                                                                            (
                                                                                              branch-and-link GreaterOrEqual Slot 17 (lit< tt) refl refl,
                                                                                              (
                                                                                                branch-and-link Less PastSlot 18 (lit< tt) refl refl,
                                                                                                (
                                                                                                  branch-and-link GreaterOrEqual PastSlot 19 (lit< tt) refl refl,
                                                                                                  (
                                                                                                    jump-to,
                                                                                                    (
                                                                                                      jump-and-link,
                                                                                                      (
                                                                                                        branch Equal Slot 4 (lit< tt) refl refl,
                                                                                                        (
                                                                                                          branch NotEqual Slot 5 (lit< tt) refl refl,
                                                                                                          (
                                                                                                            blez Slot 6 (lit< tt) refl refl,
                                                                                                            (
                                                                                                              bgtz Slot 7 (lit< tt) refl refl,
                                                                                                              (
                                                                                                                alu-immediate Add 8 (lit< tt) refl refl,
                                                                                                                (
                                                                                                                  alu-immediate AddUnsigned 9 (lit< tt) refl refl,
                                                                                                                  (
                                                                                                                    alu-immediate SetLess 10 (lit< tt) refl refl,
                                                                                                                    (
                                                                                                                      alu-immediate SetLessUnsigned 11 (lit< tt) refl refl,
                                                                                                                      (
                                                                                                                        alu-immediate And 12 (lit< tt) refl refl,
                                                                                                                        (
                                                                                                                          alu-immediate Or 13 (lit< tt) refl refl,
                                                                                                                          (
                                                                                                                            alu-immediate Xor 14 (lit< tt) refl refl,
                                                                                                                            (
                                                                                                                              load-upper 15 (lit< tt) refl refl,
                                                                                                                              (
                                                                                                                                move-from-cp0,
                                                                                                                                (
                                                                                                                                  move-to-cp0,
                                                                                                                                  (
                                                                                                                                    λ f n r. refl,
                                                                                                                                    (
                                                                                                                                      λ f n r. refl,
                                                                                                                                      (
                                                                                                                                        λ f n r. refl,
                                                                                                                                        (
                                                                                                                                          λ f n r. refl,
                                                                                                                                          (
                                                                                                                                            λ f n r. refl,
                                                                                                                                            (
                                                                                                                                              branch Equal PastSlot 20 (lit< tt) refl refl,
                                                                                                                                              (
                                                                                                                                                branch NotEqual PastSlot 21 (lit< tt) refl refl,
                                                                                                                                                (
                                                                                                                                                  blez PastSlot 22 (lit< tt) refl refl,
                                                                                                                                                  (
                                                                                                                                                    bgtz PastSlot 23 (lit< tt) refl refl,
                                                                                                                                                    (
                                                                                                                                                      load loaded.Byte 32 (lit< tt) refl refl,
                                                                                                                                                      (
                                                                                                                                                        load loaded.HalfWord 33 (lit< tt) refl refl,
                                                                                                                                                        (
                                                                                                                                                          load loaded.WordLeft 34 (lit< tt) refl refl,
                                                                                                                                                          (
                                                                                                                                                            load loaded.Word 35 (lit< tt) refl refl,
                                                                                                                                                            (
                                                                                                                                                              load loaded.ByteUnsigned 36 (lit< tt) refl refl,
                                                                                                                                                              (
                                                                                                                                                                load loaded.HalfWordUnsigned 37 (lit< tt) refl refl,
                                                                                                                                                                (
                                                                                                                                                                  load loaded.WordRight 38 (lit< tt) refl refl,
                                                                                                                                                                  (
                                                                                                                                                                    store stored.Byte 40 (lit< tt) refl refl,
                                                                                                                                                                    (
                                                                                                                                                                      store stored.HalfWord 41 (lit< tt) refl refl,
                                                                                                                                                                      (
                                                                                                                                                                        store stored.WordLeft 42 (lit< tt) refl refl,
                                                                                                                                                                        (
                                                                                                                                                                          store stored.Word 43 (lit< tt) refl refl,
                                                                                                                                                                          (
                                                                                                                                                                            store stored.WordRight 46 (lit< tt) refl refl,
                                                                                                                                                                            (
                                                                                                                                                                              load-linked 48 (lit< tt) refl refl,
                                                                                                                                                                              (
                                                                                                                                                                                store-conditional 56 (lit< tt) refl refl,
                                                                                                                                                                                (
                                                                                                                                                                                  λ f n r. tt,
                                                                                                                                                                                  (
                                                                                                                                                                                    λ f n r. tt,
                                                                                                                                                                                    tt,
                                                                                                                                                                                  ),
                                                                                                                                                                                ),
                                                                                                                                                                              ),
                                                                                                                                                                            ),
                                                                                                                                                                          ),
                                                                                                                                                                        ),
                                                                                                                                                                      ),
                                                                                                                                                                    ),
                                                                                                                                                                  ),
                                                                                                                                                                ),
                                                                                                                                                              ),
                                                                                                                                                            ),
                                                                                                                                                          ),
                                                                                                                                                        ),
                                                                                                                                                      ),
                                                                                                                                                    ),
                                                                                                                                                  ),
                                                                                                                                                ),
                                                                                                                                              ),
                                                                                                                                            ),
                                                                                                                                          ),
                                                                                                                                        ),
                                                                                                                                      ),
                                                                                                                                    ),
                                                                                                                                  ),
                                                                                                                                ),
                                                                                                                              ),
                                                                                                                            ),
                                                                                                                          ),
                                                                                                                        ),
                                                                                                                      ),
                                                                                                                    ),
                                                                                                                  ),
                                                                                                                ),
                                                                                                              ),
                                                                                                            ),
                                                                                                          ),
                                                                                                        ),
                                                                                                      ),
                                                                                                    ),
                                                                                                  ),
                                                                                                ),
                                                                                              ),
                                                                                            ),
                                                                                          ),
                                                                                        ),
                                                                                      ),
                                                                                    ),
                                                                                  ),
                                                                                ),
                                                                              ),
                                                                            ),
                                                                          ),
                                                                        ),
                                                                      ),
                                                                    ),
                                                                  ),
                                                                ),
                                                              ),
                                                            ),
                                                          ),
                                                        ),
                                                      ),
                                                    ),
                                                  ),
                                                ),
                                              ),
                                            ),
                                          ),
                                        ),
                                      ),
                                    ),
                                  ),
                                ),
                              ),
                            ),
                          ),
                        ),
                      ),
                    ),
                  ),
                ),
              ),
            ),
          ),
        ),
      ),
    ),
  ),
)

operation-in : Operation → Option (Form × Operation) → Operation
operation-in other None = other
operation-in other (Some row) = row.1

pick : (same : Bool) (row : Row) (rest : Option (Form × Operation)) (form : Form) (op : Operation)
    → cond same (Some (row.1, row.2)) rest ≡ Some (form, op) → IsDecoded row.2 → (rest ≡ Some (form, op) → IsDecoded op) → IsDecoded op
unfolding operation-in
pick true row rest form op found is later = subst IsDecoded (ap (operation-in row.2) found) is
pick false row rest form op found is later = later found

in-rows : (table : List Row) (name : List ℕ) (form : Form) (op : Operation) → AllRows table → row_in table name ≡ Some (form, op) → IsDecoded op
unfolding AllRows
in-rows [] name form op all found = absurd (cc)
in-rows (row ∷ table) name form op all found =
    pick (bytes_eq row.0 name) row (row_in table name) form op found all.0 (in-rows table name form op all.1)

pub all_are_decoded : AllAreDecoded
unfolding row_named
all_are_decoded = λ name form op found. in-rows mnemonics name form op rows found
