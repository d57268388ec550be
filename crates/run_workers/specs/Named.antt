-- What a run needs of its guests, tokens and items, and what it leaves.
use Rattle.std.specs.Prelude.{◌≡◌, ℕ, ◌<◌, ◌≤◌, ◌^◌, List, [], ◌∷◌, length, map, All, slice_get, Some, count_by}
use Rattle.base_words.specs.Limits.{most_processors}
use Rattle.atomic_table.specs.Seated.{TableId}
use Rattle.shootdown.specs.Notes.{Token}
use Rattle.shootdown.specs.Making.{numbered, fresh_token}
use Rattle.isolation_law.specs.GuestState.{GuestState}
use Rattle.isolation_law.specs.Start.{Boot}
use Rattle.isolation_law.specs.Surroundings.{cell_of_processor}
use Rattle.machine_desc.specs.declared.plan.Item.{Item}
use Rattle.guest_core.specs.GuestView.{Monitored, Shared}
use Rattle.guest_core.specs.declared.records.RunRecord.{RunRecord}
use Rattle.wire_queue.specs.Between.{Made, guest_count}
use Rattle.wire_queue.specs.declared.lists.PassList.{PassList}
use Rattle.run_workers.specs.WholeRecord.{AreRecords, AllDue}
use Rattle.run_workers.specs.Working.{cell_in, ItemFits, IsOn}
use Rattle.guest_boot.specs.Booting.{no_board, start_of, IsFresh}
use Rattle.run_workers.specs.Ending.{AllTold, EndDrained}
use Rattle.machine_desc.specs.Bounds.{item_fails}

-- the board of the first token
abbrev pub board_of_tokens : List Token → TableId
board_of_tokens [] = no_board
board_of_tokens (token ∷ tokens) = token.board

-- guests and tokens of one board, the guests with what they share, the tokens without notes, one for each processor of each guest; and a
-- plan for them
pub record MayRun (guests : List Monitored) (tokens : List Token) (shared : Shared) (items : List Item) : Type 0 where
  pub few : length guests ≤ 8
  pub some : 0 < length tokens
  pub few_tokens : length tokens ≤ most_processors
  pub guests_are : (g : ℕ) (guest : Monitored) → slice_get guests g ≡ Some guest → IsFresh (board_of_tokens tokens) shared g guest
  pub tokens_are : tokens ≡ numbered (fresh_token (board_of_tokens tokens)) 0 (length tokens)
  pub numbers : (g : ℕ) (guest : Monitored) → slice_get guests g ≡ Some guest → guest.start.around.guest ≡ g
  pub wires : guest_count shared.wires ≡ length guests
  pub processors : (g : ℕ) (guest : Monitored) → slice_get guests g ≡ Some guest → length guest.start.around.processors ≡ length tokens
  pub cells : (g : ℕ) (guest : Monitored) → slice_get guests g ≡ Some guest → (p : ℕ) → cell_of_processor guest.start.around p ≡ cell_in (map start_of guests) p
  pub few_items : length items < 2 ^ 32
  pub places : All (ItemFits (map start_of guests)) items
  pub on : All (IsOn (length tokens)) items
  pub failed_once : (cell : ℕ) → count_by (item_fails cell) items ≤ 1

-- the record of a run of these guests: each journal leads from its guest's start to its last state, and all is due; and their ends of
-- these wires
pub record IsRunOf (boots : List Boot) (items : List Item) (wires : Made) (out : RunRecord) (lists : List PassList) : Type 0 where
  pub states : List GuestState
  pub guests : AreRecords boots states out.guests
  pub due : AllDue boots items states out
  pub told : AllTold boots wires 0 states out.guests lists
  pub drained : EndDrained states lists
