-- Memory and the links to its lines (MIPS R4000 User's Manual, appendix A, LL and SC).
use Rattle.std.specs.Prelude.{ℕ, ◌+◌, ◌-◌, ◌*◌, ◌/◌, ◌%◌, ◌==◌, if◌then◌else◌, List, ◌++◌, map, length, take, drop, Bool, false, Option, Some, None, slice_index_or, slice_set}
use Rattle.base_words.specs.Memory.{word_at, with_word}
use Rattle.private_machine.specs.declared.vcpu.Vcpu.{Vcpu}
use Rattle.private_machine.specs.Vcpu.{no_vcpu, with_link}
use Rattle.private_machine.specs.PrivateMachine.{PrivateMachine}

-- the line of 32 bytes in which an offset lies, the page of a line, and the word's offset
abbrev pub line_of : ℕ → ℕ
line_of offset = offset / 32

abbrev pub page_of_line : ℕ → ℕ
page_of_line line = line / 128

abbrev pub word_offset : ℕ → ℕ
word_offset offset = offset - offset % 4

-- this line is linked; a line of this page is linked
abbrev pub is_linked : Option ℕ → ℕ → Bool
is_linked None line = false
is_linked (Some linked) line = linked == line

abbrev pub links_into : Option ℕ → ℕ → Bool
links_into None page = false
links_into (Some linked) page = page_of_line linked == page

-- a virtual processor without a link to a line, and without one into a page
abbrev pub unlinked : ℕ → Vcpu → Vcpu
unlinked line c = with_link (if is_linked c.link line then None else c.link) c

abbrev pub unlinked_page : ℕ → Vcpu → Vcpu
unlinked_page page c = with_link (if links_into c.link page then None else c.link) c

-- a store into a line clears the links to it of all virtual processors but the one that stores
abbrev pub unlinked_others : ℕ → ℕ → List Vcpu → List Vcpu
unlinked_others line v vcpus = slice_set (map (unlinked line) vcpus) v (slice_index_or vcpus v no_vcpu)

-- the word in which an offset of memory lies
abbrev pub word_around : PrivateMachine → ℕ → ℕ
word_around m offset = word_at m.memory (word_offset offset)

-- a word of memory becomes another, by the hand of a virtual processor
abbrev pub written : PrivateMachine → ℕ → ℕ → ℕ → PrivateMachine
written m v offset word = record m { memory = with_word m.memory (word_offset offset) word; vcpus = unlinked_others (line_of offset) v m.vcpus }

-- the first bytes of a page
abbrev pub page_bytes : PrivateMachine → ℕ → ℕ → List ℕ
page_bytes m page count = take count (drop (page * 4096) m.memory)

-- other first bytes come into a page, and nobody links a line of it any more
abbrev pub page_filled : PrivateMachine → ℕ → List ℕ → PrivateMachine
page_filled m page bytes = record m {
  memory = take (page * 4096) m.memory ++ (bytes ++ drop (page * 4096 + length bytes) m.memory);
  vcpus = map (unlinked_page page) m.vcpus;
}
