-- What a litmus file asks for, or its first fault.
use Rattle.std.specs.Prelude.{ℕ, ◌-◌, List, [], ◌∷◌, codes, if◌then◌else◌, Option, Some, None, Ok, Err}
use Rattle.std.specs.Str.{is_utf8}
use Rattle.toml.specs.Data.{Data, Members, get_member}
use Rattle.toml.specs.Parse.{parse_document}
use Rattle.page_slots.specs.declared.op.Op.{Op}
use Rattle.page_slots.specs.declared.op.Op.TheVariants.{Load, Store}
use Rattle.page_slots.specs.declared.op.Litmus.{Litmus}
use Rattle.litmus_file.specs.declared.fault.LitmusFault.TheVariants as fault
use Rattle.litmus_file.specs.declared.place.Place.{Place}
use Rattle.litmus_file.specs.declared.place.Place.TheVariants.{Top, Caller}
use Rattle.litmus_file.specs.Paths.{path}
use Rattle.litmus_file.specs.Reads.{Read, ◌>>=◌, each}
use Rattle.litmus_file.specs.Unknown.{only}
use Rattle.litmus_file.specs.Values.{number_in, offset_in, array_in, tables_in}

-- a load, by its page and its offset
unfoldable pub load_in : ℕ → List ℕ → Data → Data → Read Op
load_in pages key page offset = do
  p ← number_in key 0 (pages - 1) page
  o ← offset_in key offset
  Ok (Load (record { 0 = p }) o)

-- a store, by its page, its offset and its value
unfoldable pub store_in : ℕ → List ℕ → Data → Data → Data → Read Op
store_in pages key page offset value = do
  p ← number_in key 0 (pages - 1) page
  o ← offset_in key offset
  v ← number_in key 0 4294967295 value
  Ok (Store (record { 0 = p }) o v)

-- an operation, by its two or three numbers; no other length comes here
abbrev pub op_of : ℕ → List ℕ → List Data → Read Op
op_of pages key (page ∷ offset ∷ []) = load_in pages key page offset
op_of pages key (page ∷ offset ∷ value ∷ []) = store_in pages key page offset value
op_of pages key _ = Err (fault.Kind key)

-- an operation: a list of two or three numbers
abbrev pub op_in : ℕ → List ℕ → Data → Read Op
op_in pages key d = array_in key 2 3 d >>= op_of pages key

-- the operations of a caller, at most 1000
abbrev pub ops_in : ℕ → List ℕ → Data → Read (List Op)
ops_in pages key d = array_in key 0 1000 d >>= each (λ i e. op_in pages key e) 0

-- what a key holds, which has to be there
abbrev pub held : {A : Type 0} → List ℕ → (List ℕ → Data → Read A) → Option Data → Read A
held key read None = Err (fault.Missing key)
held key read (Some d) = read key d

-- the same of a key of a table
abbrev pub held_at : {A : Type 0} → Place → List ℕ → (List ℕ → Data → Read A) → Members → Read A
held_at place name read ms = held (path place name) read (get_member name ms)

-- a table `caller`
unfoldable pub caller_at : ℕ → ℕ → Members → Read (List Op)
caller_at pages i ms =
    only (Caller i) (codes "ops" ∷ []) ms >>= λ _. held_at (Caller i) (codes "ops") (ops_in pages) ms

-- how many pages there are
abbrev pub pages_in : List ℕ → Data → Read ℕ
pages_in key d = number_in key 1 16 d

-- the tables of the callers
abbrev pub callers_in : List ℕ → Data → Read (List Members)
callers_in key d = tables_in key 1 16 d

-- the whole file: first the keys of the top level, then each caller
unfoldable pub litmus_at : Members → Read Litmus
litmus_at ms = do
  _ ← only Top (codes "pages" ∷ codes "caller" ∷ []) ms
  pages ← held_at Top (codes "pages") pages_in ms
  tables ← held_at Top (codes "caller") callers_in ms
  callers ← each (caller_at pages) 0 tables
  Ok (record { pages = pages; callers = callers })

-- first the grammar of TOML
abbrev pub read_of : Option Members → Read Litmus
read_of None = Err fault.Toml
read_of (Some ms) = litmus_at ms

-- first the bytes have to be text
unfoldable pub litmus_of : List ℕ → Read Litmus
litmus_of bytes = if is_utf8 bytes then read_of (parse_document bytes) else Err fault.Toml
