-- Which frames of a guest can be read and written through a TLB: what a step of a processor asks of the valid halves.
use Rattle.std.specs.Prelude.{◌≡◌, ℕ, ◌<◌, true, false, List, [], ◌∷◌, length}
use Rattle.base_words.specs.Halves.{Half}
use Rattle.private_machine.specs.Backing.{Held, page_at, copies, has_frame}

-- the frame is the page's master or a replica of it; a guest's pages end below its device page
pub record Backs (h : Held) (page frame : ℕ) : Type 0 where
  pub low : page < 0xFFFF
  pub within : page < length h.pages
  pub is_there : has_frame (copies (page_at h.pages page)) frame ≡ true

-- the frame is the own master of a page without replicas
pub record BacksAlone (h : Held) (page frame : ℕ) : Type 0 where
  pub low : page < 0xFFFF
  pub within : page < length h.pages
  pub is_master : (page_at h.pages page).master.frame ≡ frame
  pub own : (page_at h.pages page).shared ≡ false
  pub single : (page_at h.pages page).replicas ≡ []

-- the page and frame of a half can be read, and where it is writable be written
abbrev pub Serves : Held → Half → Type 0
Serves h half = Backs h half.page half.frame × (half.writable ≡ true → BacksAlone h half.page half.frame)

abbrev pub AllServe : Held → List Half → Type 0
AllServe h [] = Unit {0}
AllServe h (half ∷ halves) = Serves h half × AllServe h halves
