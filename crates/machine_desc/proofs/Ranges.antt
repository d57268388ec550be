-- Reading the numbers of a range, one after the other, as a loop over it does.
use Rattle.std.proofs.Common.{◌≡◌, ◌≢◌, ℕ, ◌+◌, ◌<◌, ◌≤◌, List, [], ◌∷◌, ◌++◌, length, get_or, Ok, Err, sym, ◌∙◌, zero-add}
use Rattle.std.specs.List.{range_with_len}
use Rattle.std.proofs.lemmas.List.FromFn.{length-range_with_len, get_or-range_with_len}
use Rattle.machine_desc.specs.declared.fault.DescFault.{DescFault}
use Rattle.machine_desc.specs.declared.fault.DescFault.TheVariants.{Memory}
use Rattle.machine_desc.specs.Reads.{Read, each}
use Rattle.machine_desc.proofs.Plain.{IsReadUpTo, none_read, one_more_read, unread, read_whole}

-- the numbers below n are read up to this one, with these values
pub record IsReadBelow {B : Type 0} (f : ℕ → ℕ → Read B) (n : ℕ) (front : List B) (i : ℕ) : Type 0 where
  pub so_far : IsReadUpTo f (range_with_len 0 n) front i

pub none_below : {B : Type 0} (f : ℕ → ℕ → Read B) (n : ℕ) → IsReadBelow f n [] 0
none_below f n = record { so_far = none_read f (range_with_len 0 n) }

within : (n i : ℕ) → i < n → i < length (range_with_len 0 n)
within n i lt = rw (length-range_with_len 0 n) lt

at : (n i : ℕ) → i < n → i ≡ get_or (range_with_len 0 n) i i
at n i lt = sym (get_or-range_with_len 0 n i i lt ∙ zero-add i)

pub one_more_below : {B : Type 0} (f : ℕ → ℕ → Read B) (n : ℕ) (front : List B) (i : ℕ) (y : B) → IsReadBelow f n front i → i < n → f i i ≡ Ok y → IsReadBelow f n (front ++ y ∷ []) (i + 1)
one_more_below f n front i y before lt is =
    record { so_far = one_more_read f (range_with_len 0 n) front i i y before.so_far (within n i lt) (at n i lt) is }

pub fault_below : {B : Type 0} (f : ℕ → ℕ → Read B) (n : ℕ) (front : List B) (i : ℕ) (fault : DescFault) → IsReadBelow f n front i → i < n → (fault ≢ Memory → f i i ≡ Err fault)
    → fault ≢ Memory → each f 0 (range_with_len 0 n) ≡ Err fault
fault_below f n front i fault before lt is = unread f (range_with_len 0 n) front i i fault before.so_far (within n i lt) (at n i lt) is

pub all_below : {B : Type 0} (f : ℕ → ℕ → Read B) (n : ℕ) (front : List B) (i : ℕ) → IsReadBelow f n front i → n ≤ i → each f 0 (range_with_len 0 n) ≡ Ok front
all_below f n front i before le = read_whole f (range_with_len 0 n) front i before.so_far (rw (length-range_with_len 0 n) le)

pub ruleset range_readings = (none_below, one_more_below, fault_below, all_below)
