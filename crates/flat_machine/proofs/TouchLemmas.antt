-- Loads and stores of memory, as a request is answered.
use Rattle.std.proofs.Common.{◌≡◌, ℕ, ◌+◌, ◌%◌, ◌/◌, length, map, Ok, refl, sym, ap, ◌∙◌}
use Rattle.base_words.specs.declared.effect.Request.TheVariants as asks
use Rattle.base_words.specs.declared.exception.Use.TheVariants as uses
use Rattle.base_words.specs.declared.instr.LoadKind.{LoadKind}
use Rattle.base_words.specs.declared.instr.StoreKind.{StoreKind}
use Rattle.base_words.specs.declared.place.Place.TheVariants.{Memory}
use Rattle.base_words.specs.declared.regs.Regs.{Regs}
use Rattle.base_words.specs.Instruction.{advanced, register, with_register}
use Rattle.base_words.specs.Memory.{word_at, with_word}
use Rattle.base_words.specs.Merging.{load_unit, store_unit, loaded_value, stored_word}
use Rattle.base_words.specs.Place.{AddressSpace, place}
use Rattle.private_machine.specs.declared.vcpu.Vcpu.{Vcpu}
use Rattle.private_machine.specs.Vcpu.{space_of}
use Rattle.private_machine.specs.Access.{loaded, stored}
use Rattle.private_machine.specs.Links.{line_of, unlinked, word_offset}
use Rattle.private_machine.specs.PrivateMachine.{PrivateMachine, left}
use Rattle.flat_machine.specs.Parts.{Parts, put_together, Answers}
use Rattle.flat_machine.specs.Windows.{IsPageOf}
use Rattle.flat_machine.proofs.PartsLemmas.{vcpu-parts, left-parts, written-parts}
use Rattle.std.proofs.lemmas.List.{length-map}

pub load-answers : (pages : ℕ) (space : AddressSpace) (p : Parts) (kind : LoadKind) (address target start : ℕ) (regs : Regs) → IsPageOf uses.Load space pages (record { number = address / 4096; start = start }) → address % load_unit kind ≡ 0
    → regs ≡ with_register (advanced p.registers) target (loaded_value kind (word_at p.memory (word_offset (start + address % 4096))) (register (advanced p.registers) target) ((start + address % 4096) % 4))
    → Answers pages space (asks.Load kind address target) p (record p { registers = regs })
load-answers pages space p kind address target start regs page aligned is m c many same =
    let k : PrivateMachine = put_together m c p in
    let v = length p.before in
    let offset = start + address % 4096 in
    let leads : place (space_of c) m.pages (load_unit kind) uses.Load address ≡ Ok (Memory offset) = (λ i. place (same i) (many i) (load_unit kind) uses.Load address) ∙ page.leads (load_unit kind) address refl aligned in
    ap (λ (x : Vcpu). loaded k v (advanced x.registers) kind target (place (space_of x) m.pages (load_unit kind) uses.Load address)) (vcpu-parts m c p v refl)
    ∙ ap (loaded k v (advanced p.registers) kind target) leads
    ∙ ap (λ (r : Regs). Ok (left k v r)) (sym is)
    ∙ ap Ok (left-parts m c p regs)

pub store-answers : (pages : ℕ) (space : AddressSpace) (p q : Parts) (kind : StoreKind) (address value start : ℕ) → IsPageOf uses.Store space pages (record { number = address / 4096; start = start }) → address % store_unit kind ≡ 0
    → q.registers ≡ advanced p.registers → q.before ≡ map (unlinked (line_of (start + address % 4096))) p.before → q.behind ≡ map (unlinked (line_of (start + address % 4096))) p.behind
    → q.memory ≡ with_word p.memory (word_offset (start + address % 4096)) (stored_word kind (word_at p.memory (word_offset (start + address % 4096))) value ((start + address % 4096) % 4))
    → Answers pages space (asks.Store kind address value) p q
store-answers pages space p q kind address value start page aligned regs before behind memory m c many same =
    let k : PrivateMachine = put_together m c p in
    let v = length p.before in
    let offset = start + address % 4096 in
    let word = stored_word kind (word_at p.memory (word_offset offset)) value (offset % 4) in
    let w : Parts = record p { before = map (unlinked (line_of offset)) p.before; behind = map (unlinked (line_of offset)) p.behind; memory = with_word p.memory (word_offset offset) word } in
    let leads : place (space_of c) m.pages (store_unit kind) uses.Store address ≡ Ok (Memory offset) = (λ i. place (same i) (many i) (store_unit kind) uses.Store address) ∙ page.leads (store_unit kind) address refl aligned in
    let last : record w { registers = advanced p.registers } ≡ q = λ i. record { before = sym before i; registers = sym regs i; behind = sym behind i; memory = sym memory i } in
    ap (λ (x : Vcpu). stored k v (advanced x.registers) kind value (place (space_of x) m.pages (store_unit kind) uses.Store address)) (vcpu-parts m c p v refl)
    ∙ ap (stored k v (advanced p.registers) kind value) leads
    ∙ ap (λ (n : PrivateMachine). Ok (left n v (advanced p.registers))) (written-parts m c p offset word)
    ∙ ap (λ (j : ℕ). Ok (left (put_together m c w) j (advanced p.registers))) (sym (length-map p.before (unlinked (line_of offset))))
    ∙ ap Ok (left-parts m c w (advanced p.registers))
    ∙ ap (λ (u : Parts). Ok (put_together m c u)) last
