-- What keeps the bytes of a page from being changed.
use Rattle.std.specs.Prelude.{◌≡◌, ◌≢◌, ℕ, Option, Some, None}
use Rattle.base_words.specs.declared.moves.MoveKind.{MoveKind}
use Rattle.guest_devs.specs.declared.act.DevAct.{DevAct}
use Rattle.isolation_law.specs.GuestState.{GuestState, page}
use Rattle.isolation_law.specs.Needs.{for_change}
use Rattle.guest_course.specs.CourseRules.{IsWritable}
use Rattle.guest_course.specs.Acting.{act_of, page_used}
use Rattle.guest_course.specs.Tasks.{read_page}
use Rattle.guest_course.specs.declared.hurdles.Hurdle.{Hurdle}
use Rattle.guest_course.specs.declared.hurdles.Hurdle.TheVariants as hurdles

-- a page without a move needs one of this kind
pub record NeedsMove (s : GuestState) (q : ℕ) (kind : MoveKind) : Type 0 where
  pub rests : (page s q).move ≡ None
  pub needs : for_change s q ≡ Some (record { page = q; kind = kind; operation = None })

-- it needs none, and has none
pub record IsFree (s : GuestState) (q : ℕ) : Type 0 where
  pub rests : (page s q).move ≡ None
  pub writable : IsWritable (page s q)

abbrev pub Keeps : GuestState → ℕ → Hurdle → Type 0
Keeps s q hurdles.Free = IsFree s q
Keeps s q (hurdles.Waits r) = (r.0 ≡ q) × ((page s q).move ≢ None)
Keeps s q (hurdles.Needs r kind) = (r.0 ≡ q) × NeedsMove s q kind

-- what keeps the page whose bytes are to change, if there is one: where nothing does, its bytes may change, and it has no move
abbrev pub KeepsAt : GuestState → Option ℕ → Hurdle → Type 0
KeepsAt s at hurdles.Free = ((q : ℕ) → at ≡ Some q → IsWritable (page s q)) × ((q : ℕ) → at ≡ Some q → (page s q).move ≡ None)
KeepsAt s at (hurdles.Waits q) = (at ≡ Some q.0) × ((page s q.0).move ≢ None)
KeepsAt s at (hurdles.Needs q kind) = (at ≡ Some q.0) × NeedsMove s q.0 kind

-- the page that is armed for a packet
abbrev pub PacketKeeps : GuestState → Hurdle → Type 0
PacketKeeps s hurdle = KeepsAt s s.devices.armed hurdle

-- what keeps an act: a move of its page, or what the page needs into which a block is copied
pub record ActIsFree (s : GuestState) (v : ℕ) (act : DevAct) : Type 0 where
  pub rests : (q : ℕ) → page_used (act_of s v act) ≡ Some q → (page s q).move ≡ None
  pub writable : (q : ℕ) → read_page s v act ≡ Some q → IsWritable (page s q)

pub record ActWaits (s : GuestState) (v : ℕ) (act : DevAct) (q : ℕ) : Type 0 where
  pub used : page_used (act_of s v act) ≡ Some q
  pub moves : (page s q).move ≢ None

pub record ActNeeds (s : GuestState) (v : ℕ) (act : DevAct) (q : ℕ) (kind : MoveKind) : Type 0 where
  pub reads : read_page s v act ≡ Some q
  pub needs : NeedsMove s q kind

abbrev pub ActKeeps : GuestState → ℕ → DevAct → Hurdle → Type 0
ActKeeps s v act hurdles.Free = ActIsFree s v act
ActKeeps s v act (hurdles.Waits q) = ActWaits s v act q.0
ActKeeps s v act (hurdles.Needs q kind) = ActNeeds s v act q.0 kind
