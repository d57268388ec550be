-- What dealing keeps of a stretch.
use Rattle.std.proofs.Common.{◌≡◌, ◌≢◌, ℕ, ◌+◌, ◌<◌, ◌≤◌, List, [], ◌∷◌, ◌++◌, length, replicate, Some, slice_get, sym, ap, ◌∙◌, arith}
use Rattle.std.proofs.lemmas.List.{length_push, length-append, length-replicate}
use Rattle.std.proofs.lemmas.Option.{slice_get_within}
use Rattle.crossbeam_deque.specs.Handles.{worker_view, worker_flavor, worker_index, worker_capacity, SameWorker}
use Rattle.run_balance.specs.Logs.{Logged}
use Rattle.run_balance.specs.Rule.{Takes}
use Rattle.run_balance.specs.Ends.{Dealer}
use Rattle.run_balance.specs.Sides.{put_of, IsDealer, IsStretch}
use Rattle.run_balance.specs.declared.side.Stretch.{Stretch}
use Rattle.run_balance.specs.declared.task.Task.{Task}
use Rattle.run_balance.specs.declared.task.Task.TheVariants.{Item, End}
use Rattle.run_balance.proofs.Puts.{put_less, put_all, put_next}

-- its dealer after a take: what was put stays
pub dealer_takes : (share : List ℕ) (dealt owners : ℕ) (old new : Dealer) (task : Task) → IsDealer share dealt owners old → SameWorker old new → worker_index new ≤ worker_index old → Takes (worker_view old) task (worker_view new)
    → IsDealer share dealt owners new
dealer_takes share dealt owners old new task is same index takes = record {
  deals = ap (λ (v : Logged). v.deals) takes.is ∙ is.deals;
  passes = ap (λ (v : Logged). v.passes) takes.is ∙ is.passes;
  put = ap (λ (v : Logged). v.put) takes.is ∙ is.put;
  first = same.1 ∙ is.first;
  index = let e = is.index in let p = ap (λ (v : Logged). length v.put) takes.is in omega arith;
  room = let e = is.room in let c = same.3 in omega arith;
}

-- and where nothing was taken
pub dealer_stays : (share : List ℕ) (dealt owners : ℕ) (old new : Dealer) → IsDealer share dealt owners old → SameWorker old new → worker_index new ≤ worker_index old → worker_view new ≡ worker_view old → IsDealer share dealt owners new
dealer_stays share dealt owners old new is same index view_is = record {
  deals = ap (λ (v : Logged). v.deals) view_is ∙ is.deals;
  passes = ap (λ (v : Logged). v.passes) view_is ∙ is.passes;
  put = ap (λ (v : Logged). v.put) view_is ∙ is.put;
  first = same.1 ∙ is.first;
  index = let e = is.index in let p = ap (λ (v : Logged). length v.put) view_is in omega arith;
  room = let e = is.room in let c = same.3 in omega arith;
}

-- the end of a deque after one more item
dealer_more : (share : List ℕ) (dealt owners : ℕ) (old new : Dealer) (put : List Task) → IsDealer share dealt owners old → worker_flavor new ≡ worker_flavor old → worker_capacity old ≤ worker_capacity new
    → worker_view new ≡ record (worker_view old) { put = put } → put ≡ put_of share (dealt + 1) owners → worker_index new ≤ length put → IsDealer share (dealt + 1) owners new
dealer_more share dealt owners old new put is flavor capacity view_is put_is index = record {
  deals = ap (λ (v : Logged). v.deals) view_is ∙ is.deals;
  passes = ap (λ (v : Logged). v.passes) view_is ∙ is.passes;
  put = ap (λ (v : Logged). v.put) view_is ∙ put_is;
  first = flavor ∙ is.first;
  index = let e = ap (λ (v : Logged). length v.put) view_is in omega arith;
  room = let e = is.room in omega arith;
}

-- one more item, which isn't the last
pub deals_item : (share : List ℕ) (owners : ℕ) (s : Stretch) (dealer : Dealer) (item : ℕ) → IsStretch share owners s → slice_get share s.dealt ≡ Some item
    → SameWorker s.dealer dealer → worker_index dealer ≡ worker_index s.dealer + 1 → worker_view dealer ≡ record (worker_view s.dealer) { put = (worker_view s.dealer).put ++ Item item ∷ [] } → s.dealt + 1 ≢ s.count
    → IsStretch share owners (record s { dealt = s.dealt + 1; dealer = dealer })
deals_item share owners s dealer item is at same index view_is apart =
    let before = (worker_view s.dealer).put in
    let put : List Task = before ++ Item item ∷ [] in
    let inside : s.dealt < length share = slice_get_within share s.dealt item at in
    let count = is.count in
    let less : s.dealt + 1 < length share = omega arith in
    let put_is : put ≡ put_of share (s.dealt + 1) owners =
    ap (λ (l : List Task). l ++ Item item ∷ []) (is.dealer.put ∙ put_less share s.dealt owners inside) ∙ sym (put_next share s.dealt item at) ∙ sym (put_less share (s.dealt + 1) owners less) in
    record {
      count = is.count;
      dealt = omega arith;
      dealer = dealer_more share s.dealt owners s.dealer dealer put is.dealer same.1 same.3 view_is put_is (let e = is.dealer.index in let l = length_push before (Item item) in omega arith);
    }

-- the last one, with a mark for each owner
pub deals_last : (share : List ℕ) (owners : ℕ) (s : Stretch) (middle dealer : Dealer) (item : ℕ) → IsStretch share owners s → slice_get share s.dealt ≡ Some item
    → SameWorker s.dealer middle → worker_index middle ≡ worker_index s.dealer + 1 → worker_view middle ≡ record (worker_view s.dealer) { put = (worker_view s.dealer).put ++ Item item ∷ [] } → s.dealt + 1 ≡ s.count
    → SameWorker middle dealer → worker_index dealer ≡ worker_index middle + owners → worker_view dealer ≡ record (worker_view middle) { put = (worker_view middle).put ++ replicate owners End }
    → IsStretch share owners (record s { dealt = s.dealt + 1; dealer = dealer })
deals_last share owners s middle dealer item is at same index view_is last same' index' view_is' =
    let before = (worker_view s.dealer).put in
    let put : List Task = (before ++ Item item ∷ []) ++ replicate owners End in
    let inside : s.dealt < length share = slice_get_within share s.dealt item at in
    let count = is.count in
    let view_all : worker_view dealer ≡ record (worker_view s.dealer) { put = put } = view_is' ∙ (λ i. record (view_is i) { put = (view_is i).put ++ replicate owners End }) in
    let put_is : put ≡ put_of share (s.dealt + 1) owners =
    ap (λ (l : List Task). (l ++ Item item ∷ []) ++ replicate owners End) (is.dealer.put ∙ put_less share s.dealt owners inside)
    ∙ ap (λ (l : List Task). l ++ replicate owners End) (sym (put_next share s.dealt item at)) ∙ sym (put_all share (s.dealt + 1) owners (last ∙ count)) in
    record {
      count = is.count;
      dealt = omega arith;
      dealer = dealer_more share s.dealt owners s.dealer dealer put is.dealer (same'.1 ∙ same.1) (let a = same.3 in let b = same'.3 in omega arith) view_all put_is
          (let e = is.dealer.index in let l = length_push before (Item item) in let r = length-append (before ++ Item item ∷ []) (replicate owners End) in let q = length-replicate owners End in omega arith);
    }

-- both views with their puts
pub put_both : (old middle new : Dealer) (first last : List Task) → worker_view middle ≡ record (worker_view old) { put = first } → worker_view new ≡ record (worker_view middle) { put = last } → worker_view new ≡ record (worker_view old) { put = last }
put_both old middle new first last a b = b ∙ (λ i. record (a i) { put = last })
