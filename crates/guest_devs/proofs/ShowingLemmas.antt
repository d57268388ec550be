-- The virtual processors show what the devices keep, before and after a store.
use Rattle.std.proofs.Common.{◌≡◌, ℕ, zero, suc, ◌/◌, List, [], ◌∷◌, Bool, true, false, ◌||◌, Option, Some, None, if◌then◌else◌, set, map, ap, sym, ◌∙◌, refl}
use Rattle.base_words.specs.Bits.{flag}
use Rattle.private_machine.specs.declared.vcpu.Vcpu.{Vcpu}
use Rattle.private_machine.specs.Vcpu.{with_line_on, halting}
use Rattle.private_machine.specs.Signals.{called, changed, signalled}
use Rattle.private_machine.specs.DevicePage.{DevicePage}
use Rattle.private_machine.specs.DeviceRegisters.{with_status}
use Rattle.base_words.specs.declared.device.DeviceRegister.{DeviceRegister}
use Rattle.base_words.specs.declared.device.DeviceRegister.TheVariants.{Console, Halt, Input, Queued, Number, Vcpus, Call, Answered, DiskBlock, DiskPage, DiskCommand, DiskStatus, SendPage, SendLength, Send, Armed, PacketLength, PacketSender, PacketTaken}
use Rattle.guest_devs.specs.DeviceState.{DeviceState}
use Rattle.guest_devs.specs.DeviceCalls.{called_by, on_page, is_command, stored_at, stored}
use Rattle.guest_devs.specs.Shown.{Agree, brought_up, signalled_at}
use Rattle.private_machine.specs.Showing.{Shown, shown_by, shown_from, showing, showing_from}

-- what is shown already stays
showing-own : (x : Vcpu) (h c p : Bool) → shown_by x ≡ record { halted = h; called = c; packet = p } → showing h c p x ≡ x
showing-own x h c p is =
    let eh : h ≡ x.halted = sym (ap (λ (s : Shown). s.halted) is) in
    let ec : c ≡ x.cp0.cause.pending.vcpu = sym (ap (λ (s : Shown). s.called) is) in
    let ep : p ≡ x.cp0.cause.pending.packet = sym (ap (λ (s : Shown). s.packet) is) in
    ap (λ b. showing b c p x) eh ∙ ap (λ b. showing x.halted b p x) ec ∙ ap (λ b. showing x.halted x.cp0.cause.pending.vcpu b x) ep

pub showing-same : (p : Bool) (hs cs : List Bool) (xs : List Vcpu) → map shown_by xs ≡ shown_from p hs cs → showing_from p hs cs xs ≡ xs
showing-same p [] cs xs is = refl
showing-same p (h ∷ hs) [] xs is = refl
showing-same p (h ∷ hs) (c ∷ cs) [] is = refl
showing-same p (h ∷ hs) (c ∷ cs) (x ∷ xs) is =
    let head : shown_by x ≡ record { halted = h; called = c; packet = p } = cc in
    let rest : map shown_by xs ≡ shown_from false hs cs = cc in
    ap (λ y. y ∷ showing_from false hs cs xs) (showing-own x h c p head) ∙ ap (λ ys. x ∷ ys) (showing-same false hs cs xs rest)

-- a halt, an answered call, a call, and a packet that is taken or comes
pub showing-halted : (v : ℕ) (p : Bool) (hs cs : List Bool) (xs : List Vcpu) → map shown_by xs ≡ shown_from p hs cs → showing_from p (set hs v true) cs xs ≡ changed v halting xs
showing-halted v p [] cs [] is = refl
showing-halted v p [] cs (x ∷ xs) is = absurd (cc)
showing-halted zero p (h ∷ hs) [] [] is = refl
showing-halted (suc v) p (h ∷ hs) [] [] is = refl
showing-halted v p (h ∷ hs) [] (x ∷ xs) is = absurd (cc)
showing-halted zero p (h ∷ hs) (c ∷ cs) [] is = refl
showing-halted (suc v) p (h ∷ hs) (c ∷ cs) [] is = refl
showing-halted zero p (h ∷ hs) (c ∷ cs) (x ∷ xs) is =
    let head : shown_by x ≡ record { halted = h; called = c; packet = p } = cc in
    let rest : map shown_by xs ≡ shown_from false hs cs = cc in
    ap (λ y. halting y ∷ showing_from false hs cs xs) (showing-own x h c p head) ∙ ap (λ ys. halting x ∷ ys) (showing-same false hs cs xs rest)
showing-halted (suc v) p (h ∷ hs) (c ∷ cs) (x ∷ xs) is =
    let head : shown_by x ≡ record { halted = h; called = c; packet = p } = cc in
    let rest : map shown_by xs ≡ shown_from false hs cs = cc in
    ap (λ y. y ∷ showing_from false (set hs v true) cs xs) (showing-own x h c p head) ∙ ap (λ ys. x ∷ ys) (showing-halted v false hs cs xs rest)

pub showing-answered : (v : ℕ) (p : Bool) (hs cs : List Bool) (xs : List Vcpu) → map shown_by xs ≡ shown_from p hs cs → showing_from p hs (set cs v false) xs ≡ changed v (with_line_on 4 false) xs
showing-answered v p [] cs [] is = refl
showing-answered v p [] cs (x ∷ xs) is = absurd (cc)
showing-answered v p (h ∷ hs) [] [] is = refl
showing-answered v p (h ∷ hs) [] (x ∷ xs) is = absurd (cc)
showing-answered zero p (h ∷ hs) (c ∷ cs) [] is = refl
showing-answered (suc v) p (h ∷ hs) (c ∷ cs) [] is = refl
showing-answered zero p (h ∷ hs) (c ∷ cs) (x ∷ xs) is =
    let head : shown_by x ≡ record { halted = h; called = c; packet = p } = cc in
    let rest : map shown_by xs ≡ shown_from false hs cs = cc in
    ap (λ y. with_line_on 4 false y ∷ showing_from false hs cs xs) (showing-own x h c p head) ∙ ap (λ ys. with_line_on 4 false x ∷ ys) (showing-same false hs cs xs rest)
showing-answered (suc v) p (h ∷ hs) (c ∷ cs) (x ∷ xs) is =
    let head : shown_by x ≡ record { halted = h; called = c; packet = p } = cc in
    let rest : map shown_by xs ≡ shown_from false hs cs = cc in
    ap (λ y. y ∷ showing_from false hs (set cs v false) xs) (showing-own x h c p head) ∙ ap (λ ys. x ∷ ys) (showing-answered v false hs cs xs rest)

-- one is called or not
called-one : (b : Bool) (x : Vcpu) (h c p : Bool) → shown_by x ≡ record { halted = h; called = c; packet = p } → showing h (b || c) p x ≡ (if b then with_line_on 4 true x else x)
called-one true x h c p is = ap (with_line_on 4 true) (showing-own x h c p is)
called-one false x h c p is = showing-own x h c p is

pub showing-called : (word : ℕ) (p : Bool) (hs cs : List Bool) (xs : List Vcpu) → map shown_by xs ≡ shown_from p hs cs → showing_from p hs (called_by word cs) xs ≡ called word xs
showing-called word p [] cs [] is = refl
showing-called word p [] cs (x ∷ xs) is = absurd (cc)
showing-called word p (h ∷ hs) [] [] is = refl
showing-called word p (h ∷ hs) [] (x ∷ xs) is = absurd (cc)
showing-called word p (h ∷ hs) (c ∷ cs) [] is = refl
showing-called word p (h ∷ hs) (c ∷ cs) (x ∷ xs) is =
    let head : shown_by x ≡ record { halted = h; called = c; packet = p } = cc in
    let rest : map shown_by xs ≡ shown_from false hs cs = cc in
    ap (λ y. y ∷ showing_from false hs (called_by (word / 2) cs) xs) (called-one (flag 0 word) x h c p head)
    ∙ ap (λ ys. (if flag 0 word then with_line_on 4 true x else x) ∷ ys) (showing-called (word / 2) false hs cs xs rest)

-- a packet is taken, or comes
pub showing-packet : (q p : Bool) (hs cs : List Bool) (xs : List Vcpu) → map shown_by xs ≡ shown_from p hs cs → showing_from q hs cs xs ≡ changed 0 (with_line_on 3 q) xs
showing-packet q p [] cs [] is = refl
showing-packet q p [] cs (x ∷ xs) is = absurd (cc)
showing-packet q p (h ∷ hs) [] [] is = refl
showing-packet q p (h ∷ hs) [] (x ∷ xs) is = absurd (cc)
showing-packet q p (h ∷ hs) (c ∷ cs) [] is = refl
showing-packet q p (h ∷ hs) (c ∷ cs) (x ∷ xs) is =
    let head : shown_by x ≡ record { halted = h; called = c; packet = p } = cc in
    let rest : map shown_by xs ≡ shown_from false hs cs = cc in
    ap (λ y. with_line_on 3 q y ∷ showing_from false hs cs xs) (showing-own x h c p head) ∙ ap (λ ys. with_line_on 3 q x ∷ ys) (showing-same false hs cs xs rest)

-- a command leaves what is shown
command-shown : (b : Bool) (d : DeviceState) (new : DevicePage) (xs : List Vcpu) → Agree d xs → brought_up (if b then d else on_page d new) xs ≡ xs
command-shown true d new xs agree = showing-same d.packet d.halted d.called xs agree
command-shown false d new xs agree = showing-same d.packet d.halted d.called xs agree

-- after a store at a register
pub brought_up-stored_at : (v value : ℕ) (d : DeviceState) (r : DeviceRegister) (xs : List Vcpu) → Agree d xs → brought_up (stored_at v value d r) xs ≡ signalled v value xs r
brought_up-stored_at v value d Console xs agree = showing-same d.packet d.halted d.called xs agree
brought_up-stored_at v value d Halt xs agree = showing-halted v d.packet d.halted d.called xs agree
brought_up-stored_at v value d Input xs agree = showing-same d.packet d.halted d.called xs agree
brought_up-stored_at v value d Queued xs agree = showing-same d.packet d.halted d.called xs agree
brought_up-stored_at v value d Number xs agree = showing-same d.packet d.halted d.called xs agree
brought_up-stored_at v value d Vcpus xs agree = showing-same d.packet d.halted d.called xs agree
brought_up-stored_at v value d Call xs agree = showing-called value d.packet d.halted d.called xs agree
brought_up-stored_at v value d Answered xs agree = showing-answered v d.packet d.halted d.called xs agree
brought_up-stored_at v value d DiskBlock xs agree = showing-same d.packet d.halted d.called xs agree
brought_up-stored_at v value d DiskPage xs agree = showing-same d.packet d.halted d.called xs agree
brought_up-stored_at v value d DiskCommand xs agree = command-shown (is_command value) d (with_status v 3 d.page) xs agree
brought_up-stored_at v value d DiskStatus xs agree = showing-same d.packet d.halted d.called xs agree
brought_up-stored_at v value d SendPage xs agree = showing-same d.packet d.halted d.called xs agree
brought_up-stored_at v value d SendLength xs agree = showing-same d.packet d.halted d.called xs agree
brought_up-stored_at v value d Send xs agree = showing-same d.packet d.halted d.called xs agree
brought_up-stored_at v value d Armed xs agree = showing-same d.packet d.halted d.called xs agree
brought_up-stored_at v value d PacketLength xs agree = showing-same d.packet d.halted d.called xs agree
brought_up-stored_at v value d PacketSender xs agree = showing-same d.packet d.halted d.called xs agree
brought_up-stored_at v value d PacketTaken xs agree = showing-packet false d.packet d.halted d.called xs agree

pub brought_up-stored : (v value : ℕ) (d : DeviceState) (r : Option DeviceRegister) (xs : List Vcpu) → Agree d xs → brought_up (stored v value d r) xs ≡ signalled_at v value xs r
brought_up-stored v value d None xs agree = showing-same d.packet d.halted d.called xs agree
brought_up-stored v value d (Some r) xs agree = brought_up-stored_at v value d r xs agree
