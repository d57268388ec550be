-- What a guest prints and sends depends on what it is booted with, and on its own events alone.
use Rattle.std.specs.Prelude.{◌≡◌, List, []}
use Rattle.base_words.specs.declared.events.Event.{Event}
use Rattle.isolation_law.specs.GuestState.{GuestState}
use Rattle.isolation_law.specs.OwnHistory.{own, own_steps}
use Rattle.isolation_law.specs.Run.{Run}
use Rattle.isolation_law.specs.Start.{Boot, IsBoot, start}

-- the same guest: image, virtual processors, profile, disk and input
pub record SameGuest (b c : Boot) : Type 0 where
  pub image : b.image ≡ c.image
  pub vcpus : b.vcpus ≡ c.vcpus
  pub profile : b.around.profile ≡ c.around.profile
  pub disk : b.disk ≡ c.disk
  pub input : b.input ≡ c.input

pub record SameOutput (t u : GuestState) : Type 0 where
  pub console : t.devices.console ≡ u.devices.console
  pub sent : t.devices.sent ≡ u.devices.sent

-- two runs, whatever else is around: with equal own parts the output is equal
abbrev pub TwoWorlds : Type 0
TwoWorlds = (b c : Boot) (j k : List Event) (t u : GuestState) → IsBoot b → IsBoot c → SameGuest b c → Run (start b) j t → Run (start c) k u
    → own t.received j ≡ own u.received k → SameOutput t u

-- with one virtual processor and no packet received, an equal number of own steps is enough
abbrev pub OneVcpu : Type 0
OneVcpu = (b c : Boot) (j k : List Event) (t u : GuestState) → IsBoot b → IsBoot c → SameGuest b c → b.vcpus ≡ 1 → Run (start b) j t → Run (start c) k u
    → t.received ≡ [] → u.received ≡ [] → own_steps j ≡ own_steps k → SameOutput t u
