-- A named run: its guests under their locks, its workers before and after, and what is left.
use Rattle.std.proofs.Common.{◌≡◌, ℕ, zero, suc, ◌+◌, ◌<◌, ◌≤◌, List, [], ◌∷◌, ◌++◌, map, length, All, refl, sym, ap, ◌∙◌, subst, arith, append_assoc, length-append, Option, Some, None, get_or, Vec}
use Rattle.std.specs.Prelude.{slice_get, slice_index_or, option_map}
use Rattle.std.specs.declared.alloc.Global.{Global}
use Rattle.base_words.specs.Limits.{most_processors}
use Rattle.atomic_table.specs.Seated.{TableId}
use Rattle.base_words.specs.declared.events.End.TheVariants.{Budget}
use Rattle.shootdown.specs.Notes.{Token, Seat}
use Rattle.shootdown.specs.Making.{numbered, fresh_token}
use Rattle.isolation_law.specs.GuestState.{GuestState}
use Rattle.isolation_law.specs.Start.{Boot}
use Rattle.isolation_law.specs.Surroundings.{cell_of_processor}
use Rattle.machine_desc.specs.declared.plan.Item.{Item}
use Rattle.guest_core.specs.GuestView.{Monitored, Shared}
use Rattle.guest_core.specs.Records.{IsRecord}
use Rattle.guest_core.specs.declared.records.GuestRecord.{GuestRecord}
use Rattle.guest_lock.specs.Fits.{Fits}
use Rattle.guest_lock.specs.Guests.{GuestsFrom}
use Rattle.plan_due.specs.Planned.{Planned, planned}
use Rattle.run_workers.specs.WholeRecord.{AreRecords}
use Rattle.plan_due.specs.Slices.{Machine, own, AreTold}
use Rattle.plan_due.specs.Dealt.{queue_of}
use Rattle.plan_due.specs.declared.outcome.Outcome.{Outcome}
use Rattle.run_workers.specs.Working.{cell_in}
use Rattle.run_workers.specs.Workers.{IsReady, Works}
use Rattle.run_workers.specs.Parts.{token_of, outcomes_of}
use Rattle.guest_boot.specs.Booting.{start_of, IsFresh}
use Rattle.run_workers.specs.Ending.{AreLeft, AllTold}
use Rattle.std.proofs.lemmas.List.Elements.{All-nil, All-cons}
use Rattle.wire_queue.specs.Between.{Made, guest_count}
use Rattle.wire_queue.specs.PassLists.{IsListOf, AreAllOf}
use Rattle.wire_queue.specs.PassTables.{guests_of}
use Rattle.wire_queue.specs.declared.lists.PassList.{PassList}
use Rattle.run_workers.specs.declared.workers.Worker.{Worker}
use Rattle.run_workers.proofs.WholeLemmas.{get-index, get-there}

-- ---- lists by their places

pub get-map : {A B : Type 0} (f : A → B) (xs : List A) (i : ℕ) (y : B) → slice_get (map f xs) i ≡ Some y → (x : A) × (slice_get xs i ≡ Some x) × (f x ≡ y)
get-map f [] i y e = absurd cc
get-map f (x ∷ xs) zero y e = (x, refl, cc)
get-map f (x ∷ xs) (suc i) y e = get-map f xs i y e

pub map-get : {A B : Type 0} (f : A → B) (xs : List A) (i : ℕ) (x : A) → slice_get xs i ≡ Some x → slice_get (map f xs) i ≡ Some (f x)
map-get f [] i x e = absurd cc
map-get f (y ∷ ys) zero x e = let same : y ≡ x = cc in ap (λ z. Some (f z)) same
map-get f (y ∷ ys) (suc i) x e = map-get f ys i x e

some-same : {A : Type 0} (x y : A) → Some x ≡ Some y → x ≡ y
some-same x y e = cc

numbered-get : {A : Type 0} (f : ℕ → A) (k n i : ℕ) → i < n → slice_get (numbered f k n) i ≡ Some (f (k + i))
numbered-get f k zero i l = absurd (omega arith)
numbered-get f k (suc n) zero l = ap (λ j. Some (f j)) (let e : k ≡ k + 0 = omega arith in e)
numbered-get f k (suc n) (suc i) l = numbered-get f (suc k) n i (omega arith) ∙ ap (λ j. Some (f j)) (let e : suc k + i ≡ k + suc i = omega arith in e)

pub numbered-length : {A : Type 0} (f : ℕ → A) (k n : ℕ) → length (numbered f k n) ≡ n
numbered-length f k zero = refl
numbered-length f k (suc n) = ap suc (numbered-length f (suc k) n)

-- ---- guests under their locks

fresh-guests : (board : TableId) (shared : Shared) (pre : List Boot) (k : ℕ) (guests : List Monitored) → k ≡ length pre → ((i : ℕ) (g : Monitored) → slice_get guests i ≡ Some g → IsFresh board shared (k + i) g) → GuestsFrom (pre ++ map start_of guests) board shared k guests
fresh-guests board shared pre k [] e fresh = let n = length-append pre [] in omega arith
fresh-guests board shared pre k (g ∷ guests) e fresh =
    let first = fresh zero g refl in
    let here : k + 0 ≡ k = omega arith in
    let longer : k + 1 ≡ length (pre ++ g.start ∷ []) = (let n = length-append pre (g.start ∷ []) in omega arith) in (
      record {
        number_is = first.number_is ∙ here;
        start_is = at-end pre g.start (map start_of guests) k e;
        board_is = first.board_is;
        shared_is = first.shared_is;
        own_is = first.own_is ∙ (let e : k + 0 ≡ k = omega arith in e);
        goes_on = λ same. (let both : None ≡ Some Budget = sym first.goes_on ∙ same in absurd cc);
      },
      subst (λ l. GuestsFrom l board shared (k + 1) guests) (append_assoc pre (g.start ∷ []) (map start_of guests))
          (fresh-guests board shared (pre ++ g.start ∷ []) (k + 1) guests longer (λ i h at. subst (λ n. IsFresh board shared n h) (let n : k + suc i ≡ k + 1 + i = omega arith in n) (fresh (suc i) h at))),
    )
  where
    at-end : (pre : List Boot) (x : Boot) (xs : List Boot) (k : ℕ) → k ≡ length pre → slice_get (pre ++ x ∷ xs) k ≡ Some x
    at-end pre x xs k e = ap (slice_get (pre ++ x ∷ xs)) e ∙ here pre x xs
      where
        here : (pre : List Boot) (x : Boot) (xs : List Boot) → slice_get (pre ++ x ∷ xs) (length pre) ≡ Some x
        here [] x xs = refl
        here (p ∷ pre) x xs = here pre x xs

pub all-guests : (board : TableId) (shared : Shared) (guests : List Monitored) → ((g : ℕ) (guest : Monitored) → slice_get guests g ≡ Some guest → IsFresh board shared g guest) → GuestsFrom (map start_of guests) board shared 0 guests
all-guests board shared guests fresh = fresh-guests board shared [] 0 guests refl (λ i g at. subst (λ n. IsFresh board shared n g) (let e : i ≡ 0 + i = omega arith in e) (fresh i g at))

-- ---- workers

fresh-token-at : (board : TableId) (tokens : List Token) (ws : List Worker) (i : ℕ) (w : Worker) → tokens ≡ numbered (fresh_token board) 0 (length tokens) → map token_of ws ≡ tokens → slice_get ws i ≡ Some w → (i < length tokens) × (w.token ≡ fresh_token board i)
fresh-token-at board tokens ws i w all are at =
    let there = ap (λ l. slice_get l i) (sym are) ∙ map-get token_of ws i w at in
    let few = (get-index tokens i w.token w.token there).0 in
    let is : Some w.token ≡ Some (fresh_token board (0 + i)) = sym there ∙ ap (λ l. slice_get l i) all ∙ numbered-get (fresh_token board) 0 (length tokens) i few in
    (few, some-same _ _ is ∙ ap (fresh_token board) (let e : 0 + i ≡ i = omega arith in e))

fits-at : (guests : List Monitored) (board : TableId) (count i : ℕ) (token : Token) → ((g : ℕ) (guest : Monitored) → slice_get guests g ≡ Some guest → length guest.start.around.processors ≡ count) → count ≤ most_processors → i < count → token ≡ fresh_token board i → Fits (map start_of guests) board token
fits-at guests board count i token processors most few is = record {
  board_is = ap (λ (t : Token). t.board) is;
  few = subst (λ n. n < most_processors) (sym (ap (λ (t : Token). t.number) is)) (let l : i < most_processors = omega (arith, few, most) in l);
  is_processor = λ g b named.
      let guest = get-map start_of guests g b named in
      let many = processors g guest.0 guest.1 in
      let same = ap (λ (s : Boot). length s.around.processors) guest.2 in
      let number = ap (λ (t : Token). t.number) is in
      omega (arith, many, same, number, few);
}

pub ready : (guests : List Monitored) (board : TableId) (tokens : List Token) (ws : List Worker) → tokens ≡ numbered (fresh_token board) 0 (length tokens) → ((g : ℕ) (guest : Monitored) → slice_get guests g ≡ Some guest → length guest.start.around.processors ≡ length tokens) → length tokens ≤ most_processors → map token_of ws ≡ tokens → (i : ℕ) (d : Worker) → i < length ws → IsReady (map start_of guests) board (slice_index_or ws i d)
ready guests board tokens ws all processors most are i d l =
    let there = get-there ws i l in
    let at = fresh-token-at board tokens ws i there.0 all are there.1 in
    subst (IsReady (map start_of guests) board) (sym (get-index ws i there.0 d there.1).1) (record {
      fits = fits-at guests board (length tokens) i there.0.token processors most at.0 at.1;
      no_notes = ap (λ (t : Token). t.notes) at.1;
    })

outcomes-made : (w : Worker) (queue : List Outcome) → Some queue ≡ outcomes_of w → (v : Vec Outcome Global) × (w.outcomes ≡ Some v) × (v.items ≡ queue)
outcomes-made w queue e = by w.outcomes refl e
  where
    by : (o : Option (Vec Outcome Global)) → w.outcomes ≡ o → Some queue ≡ option_map (λ v. v.items) o → (v : Vec Outcome Global) × (w.outcomes ≡ Some v) × (v.items ≡ queue)
    by None is e = absurd cc
    by (Some v) is e = (v, is, some-same _ _ (sym e))

-- what a processor's token was told of in the end
pub record Done (m : Machine) (board : TableId) (plan : List Planned) (queues : List (List Outcome)) (p : ℕ) (token : Token) : Type 0 where
  pub number_is : token.number ≡ p
  pub board_is : token.board ≡ board
  pub told : AreTold m (own p plan) (queue_of queues p) token.notes

pub done-at : (m : Machine) (board : TableId) (items : List Item) (tokens : List Token) (was now : List Worker) (queues : List (List Outcome)) → tokens ≡ numbered (fresh_token board) 0 (length tokens) → map token_of was ≡ tokens → length now ≡ length was → ((i : ℕ) (d : Worker) → i < length was → Works m items (slice_index_or was i d) (slice_index_or now i d)) → map Some queues ≡ map outcomes_of now → (p : ℕ) (t : Token) → slice_get (map token_of now) p ≡ Some t → Done m board (planned 0 items) queues p t
done-at m board items tokens was now queues all are same each made p t e =
    let w = get-map token_of now p t e in
    let few = (get-index now p w.0 w.0 w.1).0 in
    let below : p < length was = omega arith in
    let old = get-there was p below in
    let at = fresh-token-at board tokens was p old.0 all are old.1 in
    let works : Works m items old.0 w.0 = subst (λ o. Works m items o w.0) (get-index was p old.0 w.0 old.1).1 (subst (Works m items (slice_index_or was p w.0)) (get-index now p w.0 w.0 w.1).1 (each p w.0 below)) in
    let queue = get-map Some queues p (outcomes_of w.0) (ap (λ l. slice_get l p) made ∙ map-get outcomes_of now p w.0 w.1) in
    let made-outcomes = outcomes-made w.0 queue.0 queue.2 in
    let number : w.0.token.number ≡ p = works.same.number ∙ ap (λ (s : Token). s.number) at.1 in
    let board_was : w.0.token.board ≡ board = works.same.board ∙ ap (λ (s : Token). s.board) at.1 in
    let told = works.told made-outcomes.0 made-outcomes.1 in
    let left : made-outcomes.0.items ≡ queue_of queues p = made-outcomes.2 ∙ sym (get-index queues p queue.0 [] queue.1).1 in
    subst (Done m board (planned 0 items) queues p) w.2 (record {
      number_is = number;
      board_is = board_was;
      told = subst (λ n. AreTold m (own n (planned 0 items)) (queue_of queues p) w.0.token.notes) number (subst (λ q. AreTold m (own w.0.token.number (planned 0 items)) q w.0.token.notes) left told);
    })

-- ---- what is left

pub all-processors : (guests : List Monitored) (count : ℕ) → ((g : ℕ) (guest : Monitored) → slice_get guests g ≡ Some guest → length guest.start.around.processors ≡ count) → All (λ (b : Boot). length b.around.processors ≡ count) (map start_of guests)
all-processors guests count processors i d l =
    let there = get-there (map start_of guests) i l in
    let guest = get-map start_of guests i there.0 there.1 in
    ap (λ (b : Boot). length b.around.processors) ((get-index (map start_of guests) i there.0 d there.1).1 ∙ sym guest.2) ∙ processors i guest.0 guest.1

pub seat-boards : (starts : List Boot) (board : TableId) (k : ℕ) (states : List GuestState) (lefts : List GuestRecord) (seats : List Seat) → AreLeft starts board k states lefts seats → All (λ (s : Seat). s.board ≡ board) seats
seat-boards starts board k [] [] [] are i d l = absurd (let m : i < 0 = l in omega arith)
seat-boards starts board k [] [] (t ∷ seats) are i d l = absurd are
seat-boards starts board k [] (r ∷ lefts) seats are i d l = absurd are
seat-boards starts board k (s ∷ states) [] seats are i d l = absurd are
seat-boards starts board k (s ∷ states) (r ∷ lefts) [] are i d l = absurd are
seat-boards starts board k (s ∷ states) (r ∷ lefts) (t ∷ seats) are zero d l = are.0.2.board_is
seat-boards starts board k (s ∷ states) (r ∷ lefts) (t ∷ seats) are (suc i) d l = seat-boards starts board (k + 1) states lefts seats are.1 i d (omega arith)

pub token-boards : (m : Machine) (board : TableId) (plan : List Planned) (queues : List (List Outcome)) (tokens : List Token) → ((p : ℕ) (t : Token) → slice_get tokens p ≡ Some t → Done m board plan queues p t) → All (λ (t : Token). t.board ≡ board) tokens
token-boards m board plan queues tokens done i d l =
    let there = get-there tokens i l in
    ap (λ (t : Token). t.board) (get-index tokens i there.0 d there.1).1 ∙ (done i there.0 there.1).board_is

records-from : (pre boots : List Boot) (board : TableId) (k : ℕ) (states : List GuestState) (lefts : List GuestRecord) (seats : List Seat) → k ≡ length pre → AreLeft (pre ++ boots) board k states lefts seats → length lefts ≡ length boots → AreRecords boots states lefts
records-from pre [] board k [] [] [] e are same = tt
records-from pre (b ∷ boots) board k [] [] [] e are same = absurd (let m : 0 ≡ suc (length boots) = same in omega arith)
records-from pre boots board k [] [] (t ∷ seats) e are same = absurd are
records-from pre boots board k [] (r ∷ lefts) seats e are same = absurd are
records-from pre boots board k (s ∷ states) [] seats e are same = absurd are
records-from pre boots board k (s ∷ states) (r ∷ lefts) [] e are same = absurd are
records-from pre [] board k (s ∷ states) (r ∷ lefts) (t ∷ seats) e are same = absurd (let m : suc (length lefts) ≡ 0 = same in omega arith)
records-from pre (b ∷ boots) board k (s ∷ states) (r ∷ lefts) (t ∷ seats) e are same =
    let start : are.0.0 ≡ b = some-same _ _ (sym are.0.1 ∙ ap (slice_get (pre ++ b ∷ boots)) e ∙ here pre b boots) in
    let longer : k + 1 ≡ length (pre ++ b ∷ []) = (let n = length-append pre (b ∷ []) in omega arith) in (
      subst (λ (x : Boot). IsRecord x s r) start are.0.2.record_is,
      records-from (pre ++ b ∷ []) boots board (k + 1) states lefts seats longer (subst (λ l. AreLeft l board (k + 1) states lefts seats) (sym (append_assoc pre (b ∷ []) boots)) are.1) (omega arith),
    )
  where
    here : (pre : List Boot) (x : Boot) (xs : List Boot) → slice_get (pre ++ x ∷ xs) (length pre) ≡ Some x
    here [] x xs = refl
    here (p ∷ pre) x xs = here pre x xs

pub all-records : (boots : List Boot) (board : TableId) (states : List GuestState) (lefts : List GuestRecord) (seats : List Seat) → AreLeft boots board 0 states lefts seats → length lefts ≡ length boots → AreRecords boots states lefts
all-records boots board states lefts seats are same = records-from [] boots board 0 states lefts seats refl are same

-- each guest is told the same of the processors
pub starts-cells : (guests : List Monitored) → ((g : ℕ) (guest : Monitored) → slice_get guests g ≡ Some guest → (p : ℕ) → cell_of_processor guest.start.around p ≡ cell_in (map start_of guests) p) → (g : ℕ) (b : Boot) → slice_get (map start_of guests) g ≡ Some b → (p : ℕ) → cell_of_processor b.around p ≡ cell_in (map start_of guests) p
starts-cells guests cells g b at p = let x = get-map start_of guests g b at in ap (λ (y : Boot). cell_of_processor y.around p) (sym x.2) ∙ cells g x.0 x.1 p

-- ---- the ends of the wires

-- each guest is told its own number
pub starts-numbers : (guests : List Monitored) → ((g : ℕ) (guest : Monitored) → slice_get guests g ≡ Some guest → guest.start.around.guest ≡ g) → (i : ℕ) (b : Boot) → slice_get (map start_of guests) i ≡ Some b → b.around.guest ≡ i
starts-numbers guests numbers i b at = let x = get-map start_of guests i b at in ap (λ (y : Boot). y.around.guest) (sym x.2) ∙ numbers i x.0 x.1

passes-from : (starts : List Boot) (wires : Made) (k : ℕ) (states : List GuestState) (lefts : List GuestRecord) (lists : List PassList) → AllTold starts wires k states lefts lists → ((i : ℕ) (b : Boot) → slice_get starts i ≡ Some b → b.around.guest ≡ i)
    → All (IsListOf wires) lists × ((i : ℕ) → i < length lists → get_or (guests_of lists) i 0 ≡ k + i) × (length lists ≡ length lefts)
passes-from starts wires k [] [] [] told numbers = (All-nil (IsListOf wires), (λ i lt. absurd (let m : i < 0 = lt in omega arith)), refl)
passes-from starts wires k [] [] (t ∷ lists) told numbers = absurd told
passes-from starts wires k [] (r ∷ lefts) lists told numbers = absurd told
passes-from starts wires k (s ∷ states) [] lists told numbers = absurd told
passes-from starts wires k (s ∷ states) (r ∷ lefts) [] told numbers = absurd told
passes-from starts wires k (s ∷ states) (r ∷ lefts) (t ∷ lists) told numbers =
    let rest = passes-from starts wires (k + 1) states lefts lists told.1 numbers in
    let wired = told.0.2.wired in
    let number = wired.number ∙ numbers k told.0.0 told.0.1 in
    (All-cons (IsListOf wires) t lists wired.list rest.0, by number rest.1, ap suc rest.2)
  where
    by : t.guest.0 ≡ k → ((i : ℕ) → i < length lists → get_or (guests_of lists) i 0 ≡ k + 1 + i) → (i : ℕ) → i < length (t ∷ lists) → get_or (guests_of (t ∷ lists)) i 0 ≡ k + i
    by number more zero lt = omega (arith, number)
    by number more (suc i) lt = let m = more i (omega (arith, lt)) in omega (arith, m)

pub all-passes : (starts : List Boot) (wires : Made) (states : List GuestState) (lefts : List GuestRecord) (lists : List PassList) → AllTold starts wires 0 states lefts lists → length lefts ≡ guest_count wires → ((i : ℕ) (b : Boot) → slice_get starts i ≡ Some b → b.around.guest ≡ i) → AreAllOf wires lists
all-passes starts wires states lefts lists told count numbers =
    let are = passes-from starts wires 0 states lefts lists told numbers in
    record {
      all = are.2 ∙ count;
      numbered = λ i lt. let n = are.1 i (omega (arith, lt, are.2, count)) in omega (arith, n);
      each = are.0;
    }
