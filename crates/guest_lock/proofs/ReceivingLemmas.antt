-- A guest is asked for a packet once more.
use Rattle.std.proofs.Common.{◌≡◌, ℕ, suc, ◌+◌, subst, arith}
use Rattle.guest_core.specs.GuestView.{Monitored}
use Rattle.guest_lock.specs.Receiving.{HasCalled, HasCalledTimes}

pub once-more : (n : ℕ) (old mid new : Monitored) → HasCalledTimes n old mid → HasCalled mid new → HasCalledTimes (n + 1) old new
once-more n old mid new before once = subst (λ k. HasCalledTimes k old new) (let e : suc n ≡ n + 1 = omega arith in e) (mid, before, once)
