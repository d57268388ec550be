use Rattle.std.proofs.Common.{Ok, get_or, ap, ◌∙◌, refl}
use Rattle.std.proofs.lemmas.List.{get_or_default}
use Rattle.base_words.specs.Coprocessor.{register_at, writes}
use Rattle.base_words.specs.Instruction.{advanced}
use Rattle.mips_alu.specs.Execution.{passed_system}
use Rattle.private_machine.specs.PrivateMachine.{vcpu}
use Rattle.private_machine.specs.Showing.{shown_by}
use Rattle.private_machine.specs.declared.vcpu.Vcpu.{Vcpu}
use Rattle.private_machine.specs.Vcpu.{no_vcpu, with_registers, with_cp0, system_done}
use Rattle.trap_emulate.specs.Deeds.{written_by}
use Rattle.trap_emulate.specs.GuestView.{machine_of}
use Rattle.trap_emulate.proofs.ChangeLemmas.{on_vcpu-twice, on_vcpu-is}
use Rattle.trap_emulate.proofs.FitLemmas.{Fits-one}
use Rattle.trap_emulate.proofs.making.carry_out.Goals as goal

pub returns-in-Raise-clause-fits : goal.returns-in-Raise-clause-fits
returns-in-Raise-clause-fits c =
    Fits-one c.args.devs.now.state.pages c.args.vcpus.now c.args.devs.now.state c.args.vcpu.0 c.raise.new.self c.index-vcpus-place.result c.requires.fits
    (ap shown_by c.raise.ensures ∙ c.shown_stays.ensures.raised (get_or c.args.vcpus.now c.args.vcpu.0 c.index-vcpus-place.result) c.in-Raise.exception)

pub returns-in-ReadCp0-clause-fits : goal.returns-in-ReadCp0-clause-fits
returns-in-ReadCp0-clause-fits c =
    let x = c.index-vcpus-place-in-ReadCp0 in
    Fits-one c.args.devs.now.state.pages c.args.vcpus.now c.args.devs.now.state c.args.vcpu.0 c.read_cp0.new.vcpu x.result c.requires.fits (ap shown_by c.read_cp0.ensures)

pub returns-in-WriteCp0-clause-fits : goal.returns-in-WriteCp0-clause-fits
returns-in-WriteCp0-clause-fits c =
    let x = c.index-vcpus-place-in-WriteCp0 in
    Fits-one c.args.devs.now.state.pages c.args.vcpus.now c.args.devs.now.state c.args.vcpu.0 c.write_cp0.new.vcpu x.result c.requires.fits
    (ap shown_by c.write_cp0.ensures ∙ c.shown_stays.ensures.written (let y = get_or c.args.vcpus.now c.args.vcpu.0 x.result in with_registers (advanced y.registers) y) (register_at c.in-WriteCp0.number) c.in-WriteCp0.value)

pub returns-in-System-clause-fits : goal.returns-in-System-clause-fits
returns-in-System-clause-fits c =
    let x = c.index-vcpus-place-in-System-2 in
    Fits-one c.args.devs.now.state.pages c.args.vcpus.now c.args.devs.now.state c.args.vcpu.0 c.do_system.new.vcpu x.result c.requires.fits
    (ap shown_by c.do_system.ensures ∙ let y = get_or c.args.vcpus.now c.args.vcpu.0 x.result in c.shown_stays.ensures.system y c.in-System.op (passed_system c.in-System.op y.registers))

pub returns-in-WriteCp0-clause-tells : goal.returns-in-WriteCp0-clause-tells
returns-in-WriteCp0-clause-tells c memory disk =
    let pages = c.args.devs.now.state.pages in
    let vcpus = c.args.vcpus.now in
    let v = c.args.vcpu.0 in
    let m = machine_of pages vcpus c.args.devs.now.state.page memory disk in
    let first = with_registers (advanced (vcpu m v).registers) in
    let second = λ (x : Vcpu). with_cp0 (writes x.cp0 (register_at c.in-WriteCp0.number) c.in-WriteCp0.value) x in
    let whole = λ (x : Vcpu). second (with_registers (advanced x.registers) x) in
    rw c.in-WriteCp0.is (
      ap Ok (on_vcpu-twice m v first second c.requires.there
          ∙ on_vcpu-is pages vcpus c.args.devs.now.state.page memory disk v whole c.write_cp0.new.vcpu c.index-vcpus-place-in-WriteCp0.result c.requires.there c.write_cp0.ensures),
      refl,
    )

pub returns-in-System-clause-tells : goal.returns-in-System-clause-tells
returns-in-System-clause-tells c memory disk =
    let pages = c.args.devs.now.state.pages in
    let vcpus = c.args.vcpus.now in
    let v = c.args.vcpu.0 in
    let op = c.in-System.op in
    let m = machine_of pages vcpus c.args.devs.now.state.page memory disk in
    let whole = λ (x : Vcpu). system_done op (with_registers (passed_system op x.registers) x) in
    rw c.in-System.is (
      ap Ok (on_vcpu-twice m v (with_registers (passed_system op (vcpu m v).registers)) (system_done op) c.requires.there
          ∙ on_vcpu-is pages vcpus c.args.devs.now.state.page memory disk v whole c.do_system.new.vcpu c.index-vcpus-place-in-System-2.result c.requires.there c.do_system.ensures),
      c.written-entry.ensures ∙ ap (written_by op) (get_or_default vcpus v c.index-vcpus-place-in-System.result no_vcpu c.requires.there),
    )

pub returns-in-LoadDevice-clause-tells : goal.returns-in-LoadDevice-clause-tells
returns-in-LoadDevice-clause-tells c memory disk = rw c.in-LoadDevice.is (c.load_device.ensures.loaded memory disk, refl)

pub returns-in-StoreDevice-clause-tells : goal.returns-in-StoreDevice-clause-tells
returns-in-StoreDevice-clause-tells c memory disk = rw c.in-StoreDevice.is (c.store_device.ensures.stored memory disk, refl)
