-- A page that has nothing to do with a frame.
use Rattle.std.specs.Prelude.{◌≡◌, ◌≢◌, ℕ, List, [], None}
use Rattle.private_machine.specs.Backing.{Page, page_at}

-- another frame is its master, and it has no replicas and no move
pub record LacksFrame (frame : ℕ) (pages : List Page) (q : ℕ) : Type 0 where
  pub other : (page_at pages q).master.frame ≢ frame
  pub single : (page_at pages q).replicas ≡ []
  pub rests : (page_at pages q).move ≡ None
