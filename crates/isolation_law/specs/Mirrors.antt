-- Each word of a register page is what its register of coprocessor 0 reads.
use Rattle.std.specs.Prelude.{◌≡◌, Bool, List, Option, map}
use Rattle.private_machine.specs.declared.register_page.RegBlock.{RegBlock}
use Rattle.private_machine.specs.declared.vcpu.Vcpu.{Vcpu}
use Rattle.private_machine.specs.RegisterPage.{has_page, block_for}
use Rattle.isolation_law.specs.GuestState.{GuestState}

-- one for each virtual processor, in a guest that has them
abbrev pub blocks_for : Bool → List Vcpu → List (Option RegBlock)
blocks_for has vcpus = map (λ (c : Vcpu). block_for has c.cp0) vcpus

abbrev pub Mirrors : GuestState → Type 0
Mirrors s = s.blocks ≡ blocks_for (has_page s.around.profile) s.vcpus
