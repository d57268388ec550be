use Rattle.std.proofs.Common.{◌≡◌, map, take}
use Rattle.private_machine.specs.declared.vcpu.Vcpu.{Vcpu}
use Rattle.private_machine.specs.RegisterPage.{has_page, block_for}
use Rattle.guest_course.proofs.paging.blocks_of.Given as goal

abbrev pub invariant-loop-vcpu : goal.invariant-loop-vcpu
invariant-loop-vcpu l = l.blocks.items ≡ map (λ (c : Vcpu). block_for (has_page l.profile) c.cp0) (take l.vcpu-index l.vcpus)
