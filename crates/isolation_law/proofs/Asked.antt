-- What is known of a page for which a move is asked.
use Rattle.std.proofs.Common.{◌≡◌, ℕ, Bool, true, false, Option, Some, None, length, ⊎_elim, sym, subst, arith}
use Rattle.private_machine.specs.Operation.{Packet as InHand, Operation}
use Rattle.isolation_law.specs.Causes.{by_page, seeks_frame, first_cause}
use Rattle.isolation_law.specs.GuestState.{GuestState, page}
use Rattle.isolation_law.specs.MoveRows.{Asks, IsPlanned, StepLoses}
use Rattle.isolation_law.specs.Needs.{for_change, needed, for_packet}
use Rattle.isolation_law.specs.Parts.{Wish}
use Rattle.isolation_law.specs.StepAct.{at_hand}
use Rattle.private_machine.specs.DeviceAct.{Act, StoresTo, ReadsDisk, WritesDisk, SendsPage, WritesEntry, NoAct}
use Rattle.base_words.specs.declared.moves.By.{By}
use Rattle.base_words.specs.declared.moves.By.TheVariants.{Plan, Due, Step, Packet}
use Rattle.base_words.specs.declared.moves.MoveKind.{MoveKind}
use Rattle.base_words.specs.declared.moves.MoveKind.TheVariants.{Migrate, Replicate, Collapse, Break, TakeShared, GiveShared}

-- what a kind says of whether the page is shared, where a step, a packet, the plan or the policy asks for it
abbrev pub SharedFits : Bool → MoveKind → Type 0
SharedFits shared Migrate = shared ≡ false
SharedFits shared Replicate = shared ≡ false
SharedFits shared Collapse = Unit {0}
SharedFits shared Break = shared ≡ true
SharedFits shared TakeShared = Unit {0}
SharedFits shared GiveShared = shared ≡ false

by_page-own : (s : GuestState) (wish : Wish) → by_page s.around.frames wish.kind wish.node (page s wish.page) ≡ None → (page s wish.page).shared ≡ false
by_page-own s wish none = grind arith

first_cause-own : (s : GuestState) (p : ℕ) (wish : Wish) → first_cause s p wish ≡ None → (page s wish.page).shared ≡ false
first_cause-own s p wish none = grind (arith, by_page-own s wish)

planned : (s : GuestState) (wish : Wish) → IsPlanned s wish → (page s wish.page).shared ≡ false → SharedFits (page s wish.page).shared wish.kind
planned s wish is own = grind arith

due_fits : (k : MoveKind) (shared : Bool) → shared ≡ false → seeks_frame k ≡ true → SharedFits shared k
due_fits Migrate shared own seeks = own
due_fits Replicate shared own seeks = own
due_fits Collapse shared own seeks = tt
due_fits Break shared own seeks = cc
due_fits TakeShared shared own seeks = tt
due_fits GiveShared shared own seeks = own

for_change-fits : (s : GuestState) (q r : ℕ) (k : MoveKind) (o : Option Operation) → for_change s q ≡ Some (record { page = r; kind = k; operation = o }) → SharedFits (page s r).shared k
for_change-fits s q r k o needs = grind arith

needed-fits : (s : GuestState) (v : ℕ) (shares : Bool) (act : Act) (r : ℕ) (k : MoveKind) (o : Option Operation) → needed s v shares act ≡ Some (record { page = r; kind = k; operation = o }) → SharedFits (page s r).shared k
needed-fits s v shares (StoresTo q) r k o needs = for_change-fits s q r k o needs
needed-fits s v shares (ReadsDisk b q) r k o needs = grind (arith, for_change-fits s q r k o)
needed-fits s v shares (WritesDisk b q) r k o needs = cc
needed-fits s v shares (SendsPage q length to) r k o needs = grind arith
needed-fits s v shares (WritesEntry index) r k o needs = cc
needed-fits s v shares NoAct r k o needs = cc

for_packet-fits : (s : GuestState) (shares : Bool) (packet : InHand) (q r : ℕ) (k : MoveKind) (o : Option Operation) → for_packet s shares packet q ≡ Some (record { page = r; kind = k; operation = o }) → SharedFits (page s r).shared k
for_packet-fits s shares packet q r k o needs = grind (arith, for_change-fits s q r k o)

collapse-fits : (shared : Bool) (k : MoveKind) → k ≡ Collapse → SharedFits shared k
collapse-fits shared k is = subst (SharedFits shared) (sym is) tt

pub asks-fits : (s : GuestState) (by : By) (wish : Wish) (o : Option Operation) → Asks s by wish o → SharedFits (page s wish.page).shared wish.kind
asks-fits s (Plan p) wish o asks = planned s wish asks.0.planned (first_cause-own s p.0 wish asks.1)
asks-fits s (Due p) wish o asks = due_fits wish.kind (page s wish.page).shared (first_cause-own s p.0 wish asks.1) asks.0.seeks
asks-fits s (Step p) wish o asks = ⊎_elim
    (needed-fits s asks.v asks.shares (at_hand s asks.v) wish.page wish.kind o)
    (λ (lost : StepLoses s p.0 asks.v wish o). collapse-fits (page s wish.page).shared wish.kind lost.is_collapse)
    asks.needs
asks-fits s Packet wish o asks = for_packet-fits s asks.shares asks.packet wish.page wish.page wish.kind o asks.needs
