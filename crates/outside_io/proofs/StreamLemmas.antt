-- What a stream had left, and what was taken of it.
use Rattle.std.proofs.Common.{◌≡◌, ℕ, ◌+◌, ◌<◌, ◌≤◌, List, [], ◌++◌, length, length-append, take, drop, take-append-drop, append_assoc, Option, Some, None, IfSome, ap, sym, ◌∙◌, arith}
use Rattle.std.proofs.lemmas.List.{append-nil}
use Rattle.std.proofs.KnownBytes.{Appends-trans, Consumes-trans, Consumes-kept, Consumes-all}
use Rattle.std.specs.Io.KnownBytes.{Appends, Consumes, Keeps, IsAtEnd}
use Rattle.outside_io.specs.Streams.{TakesUpTo, TakesAllBut}

-- who gave so many bytes had as many
pub longer-Consumes : (a b : Option (List ℕ)) (taken : List ℕ) (most : ℕ) → Consumes a b taken → most < length taken → IfSome a (λ all. most < length all)
longer-Consumes None b taken most consumes more = tt
longer-Consumes (Some all) None taken most consumes more = absurd consumes
longer-Consumes (Some all) (Some rest) taken most consumes more = omega (arith, ap length consumes, length-append taken rest)

-- what was taken up to the end is all
pub all-Consumes : (a b c : Option (List ℕ)) (taken none : List ℕ) → Consumes a b taken → Consumes b c none → none ≡ [] → IsAtEnd c → IfSome a (λ all. taken ≡ all)
all-Consumes a b c taken none first last empty ended =
    Consumes-all a c (taken ++ none) [] taken (Consumes-trans a b c taken none first last) ended (sym (append-nil taken) ∙ ap (λ (xs : List ℕ). taken ++ xs) (sym empty))

-- two pieces within a limit
pub TakesUpTo-twice : (a b c : Option (List ℕ)) (first second : List ℕ) (most : ℕ) → Consumes a b first → Consumes b c second → length first + length second ≤ most → TakesUpTo a c most
TakesUpTo-twice a b c first second most one two within = record {
  taken = first ++ second;
  few = omega (arith, within, length-append first second);
  consumes = Consumes-trans a b c first second one two;
}

-- a read that failed takes nothing
pub TakesUpTo-kept : (a b c : Option (List ℕ)) (taken : List ℕ) (most : ℕ) → Consumes a b taken → Keeps b c → length taken ≤ most → TakesUpTo a c most
TakesUpTo-kept a b c taken most consumes kept within = record { taken = taken; few = within; consumes = Consumes-kept a b c taken consumes kept }

-- some more was taken
pub TakesAllBut-more : (a b c : Option (List ℕ)) (bytes left : List ℕ) (count : ℕ) → TakesAllBut a b bytes left → Appends b c (take count left) → TakesAllBut a c bytes (drop count left)
TakesAllBut-more a b c bytes left count far more = record {
  part = far.part ++ take count left;
  prefix = append_assoc far.part (take count left) (drop count left) ∙ ap (λ (xs : List ℕ). far.part ++ xs) (take-append-drop count left) ∙ far.prefix;
  appends = Appends-trans a b c far.part (take count left) far.appends more;
}
