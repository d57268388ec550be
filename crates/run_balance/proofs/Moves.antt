-- Each step keeps the rule of a deque.
use Rattle.std.proofs.Common.{◌≡◌, ◌≢◌, ℕ, ◌+◌, ◌<◌, ◌≤◌, true, false, List, [], ◌∷◌, ◌++◌, length, set, sum_by, slice_get, Some, refl, sym, ap, ◌∙◌, subst, ⊎_elim, append_assoc, append-nil, arith}
use mathlib.Core.Option.{some}
use lib.ListN.{get_elem?}
use Rattle.std.specs.List.{All}
use Rattle.std.proofs.lemmas.Bool.{false≢true}
use Rattle.std.proofs.lemmas.List.{length-append}
use Rattle.std.proofs.lemmas.List.Sums.{sum_by-append, sum_by_push}
use Rattle.std.proofs.lemmas.List.Elements.{All-nil, All-push, All-append, All-weaker}
use Rattle.crossbeam_deque.proofs.Lists.{at_set}
use Rattle.crossbeam_deque.specs.Tasks.{Pushes, Takes as TakesSome, Finds, Forks, Merges, Learns}
use Rattle.run_balance.specs.Logs.{Took, took, placed, mark_of, marks, marks_got, Logged, first_log, thief_log, spent_log, joined_log}
use Rattle.run_balance.specs.Rule.{FitsAt, FitFrom, IsBefore, Knows, Dealing, Takes, Settled}
use Rattle.run_balance.specs.declared.task.Task.{Task}
use Rattle.run_balance.specs.declared.task.Task.TheVariants.{Item, End}
use Rattle.run_balance.proofs.Views.{each_one, each_set, each_push}
use Rattle.run_balance.proofs.Sums.{sum_set, sum_two, sum_less, sum_alone}
use Rattle.run_balance.proofs.Tasks.{weigh_more, marks_placed, fit_there, fit_more}

pub begins : Dealing [] (first_log ∷ [])
begins = record {
  dealer = 0;
  share = [];
  passes = 1;
  put = [];
  gone = [];
  in_order = refl;
  fit = tt;
  parts = refl;
  taken = λ weight. refl;
  known = each_one (Knows 0 [] 1 [] 0) first_log
      (record { deals = λ _. (refl, refl, refl); share_is = λ _. refl; before = All-nil (IsBefore 0); marks_are = omega arith; idle = λ _. refl });
}

-- a pass that takes part in nothing knows nothing
spent : (dealer : ℕ) (share : List ℕ) (passes : ℕ) (put : List Task) (gone port : ℕ) → Knows dealer share passes put gone port spent_log
spent dealer share passes put gone port =
    record { deals = λ d. absurd (false≢true d); share_is = λ less. absurd (omega arith); before = All-nil (IsBefore gone); marks_are = omega arith; idle = λ _. refl }

pub puts : (port : ℕ) (v : Logged) (task : Task) → v.deals ≡ true → 0 < v.parts → FitsAt v.share (length v.put) task → Pushes Dealing port v (task ∷ []) (λ w. w ≡ record v { put = v.put ++ task ∷ [] })
puts port v task may some_part fits items views h at =
    let w : Logged = record v { put = v.put ++ task ∷ [] } in
    let mine = h.known port v at in
    let put : List Task = h.put ++ task ∷ [] in
    let same : v.put ≡ h.put = (mine.deals may).1 in
    let parts = sum_set (λ (u : Logged). u.parts) views port v w at in (
      w,
      record {
        dealer = h.dealer;
        share = h.share;
        passes = h.passes;
        put = put;
        gone = h.gone;
        in_order = ap (λ (l : List Task). l ++ task ∷ []) h.in_order ∙ append_assoc h.gone items (task ∷ []);
        fit = fit_more h.share 0 h.put task h.fit (subst (λ (x : List ℕ × ℕ). FitsAt x.0 x.1 task)
            (λ i. (mine.share_is some_part i, (let e : length v.put ≡ 0 + length h.put = ap length same ∙ omega arith in e) i)) fits);
        parts = let e = h.parts in omega arith;
        taken = λ weight. let s = sum_set (λ (u : Logged). sum_by weight u.got) views port v w at in let e = h.taken weight in omega arith;
        known = each_set (Knows h.dealer h.share h.passes put (length h.gone)) views port w
            (record {
              deals = λ _. ((mine.deals may).0, ap (λ (l : List Task). l ++ task ∷ []) same, (mine.deals may).2);
              share_is = mine.share_is;
              before = mine.before;
              marks_are = mine.marks_are;
              idle = mine.idle;
            })
            (λ j u other there. let theirs = h.known j u there in record {
              deals = λ d. absurd (other ((theirs.deals d).0 ∙ sym (mine.deals may).0));
              share_is = theirs.share_is;
              before = theirs.before;
              marks_are = theirs.marks_are;
              idle = theirs.idle;
            });
      },
      refl,
    )

one_at_most : (task : Task) → mark_of task ≤ 1
one_at_most (Item item) = omega arith
one_at_most End = omega arith

-- what was taken before one more task left was taken before that
later : (n : ℕ) (got : List Took) → All (IsBefore n) got → All (IsBefore (n + 1)) got
later n got h = All-weaker (IsBefore n) (IsBefore (n + 1)) (λ (t : Took) less. omega arith) got h

-- what stands behind all that left
behind_all : (gone : List Task) (task : Task) (items : List Task) → slice_get (gone ++ task ∷ items) (length gone) ≡ Some task
behind_all [] task items = refl
behind_all (t ∷ gone) task items = behind_all gone task items

takes_one : (port : ℕ) (v : Logged) → marks_got v.got < v.parts → (task : Task) (items : List Task) (views : List Logged) → Dealing (task ∷ items) views → get_elem? views port ≡ some v
    → (w : Logged) × Dealing items (set views port w) × ((x : Task) × (task ∷ [] ≡ x ∷ []) × Takes v x w)
takes_one port v room task items views h at =
    let place = length h.gone in
    let t : Took = took place task in
    let w : Logged = record v { got = v.got ++ t ∷ [] } in
    let mine = h.known port v at in
    let gone : List Task = h.gone ++ task ∷ [] in
    let longer : length gone ≡ place + 1 = length-append h.gone (task ∷ []) ∙ omega arith in
    let parts = sum_set (λ (u : Logged). u.parts) views port v w at in
    let there : FitsAt h.share (0 + place) task = fit_there h.share 0 h.gone task items (subst (FitFrom h.share 0) h.in_order h.fit) in
    let Kn = Knows h.dealer h.share h.passes h.put in (
      w,
      record {
        dealer = h.dealer;
        share = h.share;
        passes = h.passes;
        put = h.put;
        gone = gone;
        in_order = h.in_order ∙ sym (append_assoc h.gone (task ∷ []) items);
        fit = h.fit;
        parts = let e = h.parts in omega arith;
        taken = λ weight.
            let s = sum_set (λ (u : Logged). sum_by weight u.got) views port v w at in
            let e = h.taken weight in
            let a = sum_by_push weight v.got t in
            let b : sum_by weight (placed 0 gone) ≡ sum_by weight (placed 0 h.gone) + weight t
            = weigh_more weight 0 h.gone task ∙ ap (λ (n : ℕ). sum_by weight (placed 0 h.gone) + weight (took n task)) (let z : 0 + place ≡ place = omega arith in z) in
            omega arith;
        known = subst (λ (n : ℕ). (j : ℕ) (u : Logged) → get_elem? (set views port w) j ≡ some u → Kn n j u) (sym longer)
            (each_set (Kn (place + 1)) views port w
            (record {
              deals = mine.deals;
              share_is = mine.share_is;
              before = All-push (IsBefore (place + 1)) v.got t (later place v.got mine.before) (let e : place < place + 1 = omega arith in e);
              marks_are = let a = sum_by_push (λ (x : Took). mark_of x.task) v.got t in let b = one_at_most task in omega arith;
              idle = λ none. absurd (omega arith);
            })
            (λ j u other there. let theirs = h.known j u there in record {
              deals = theirs.deals;
              share_is = theirs.share_is;
              before = later place u.got theirs.before;
              marks_are = theirs.marks_are;
              idle = theirs.idle;
            }));
      },
      (
        task,
        refl,
        record {
          place = place;
          is = refl;
          fits = subst (λ (x : List ℕ × ℕ). FitsAt x.0 x.1 task) (λ i. (sym (mine.share_is (let e : 0 < v.parts = omega arith in e)) i, (let z : 0 + place ≡ place = omega arith in z) i)) there;
          behind = mine.before;
          put = λ deals. ap (λ (l : List Task). slice_get l place) ((mine.deals deals).1 ∙ h.in_order) ∙ behind_all h.gone task items;
        },
      ),
    )

pub gets : (port : ℕ) (v : Logged) → marks_got v.got < v.parts → TakesSome Dealing port v 1 (λ xs w. (task : Task) × (xs ≡ task ∷ []) × Takes v task w)
gets port v room [] items views more few h at = absurd (omega arith)
gets port v room (x ∷ []) items views more few h at = takes_one port v room x items views h at
gets port v room (x ∷ y ∷ xs) items views more few h at = absurd (omega arith)

-- an empty deque: not every pass can have a mark where one has fewer than its parts
pub finds : (port : ℕ) (v : Logged) → Finds Dealing port v (v.deals ≡ true → marks_got v.got < v.parts → marks v.put < v.passes)
finds port v views h at may room =
    let mine = h.known port v at in
    let less = sum_less (λ (u : Logged). marks_got u.got) (λ (u : Logged). u.parts) views port v (λ i u there. (h.known i u there).marks_are) at room in
    let all = h.taken (λ (t : Took). mark_of t.task) in
    let placed_marks = marks_placed 0 h.gone in
    let put : marks v.put ≡ marks h.gone = ap marks ((mine.deals may).1 ∙ h.in_order ∙ append-nil h.gone) in
    let parts = h.parts in
    let passes = (mine.deals may).2 in
    omega arith

-- the others take part in nothing
idle_else : (items : List Task) (views : List Logged) (h : Dealing items views) (port : ℕ) (v : Logged) → get_elem? views port ≡ some v → h.passes ≡ v.parts
    → (j : ℕ) (u : Logged) → j ≢ port → get_elem? views j ≡ some u → u.parts ≡ 0
idle_else items views h port v at all j u apart there = let two = sum_two (λ (u : Logged). u.parts) views j port u v apart there at in let parts = h.parts in omega arith

nothing_else : (gone items : List Task) → [] ≡ gone ++ items → (gone ≡ []) × (items ≡ [])
nothing_else [] [] e = (refl, refl)
nothing_else [] (x ∷ items) e = absurd cc
nothing_else (x ∷ gone) items e = absurd cc

-- the share of a new deque is named
pub names : (port : ℕ) (v : Logged) (share : List ℕ) → v ≡ first_log → Forks Dealing port v (record first_log { share = share }) spent_log
names port v share new items views h at =
    let mine = h.known port v at in
    let may : v.deals ≡ true = ap (λ (u : Logged). u.deals) new in
    let w : Logged = record first_log { share = share } in
    let none = nothing_else h.gone items (sym (ap (λ (u : Logged). u.put) new) ∙ (mine.deals may).1 ∙ h.in_order) in
    let one : h.passes ≡ v.parts = sym (mine.deals may).2 ∙ ap (λ (u : Logged). u.passes) new ∙ sym (ap (λ (u : Logged). u.parts) new) in
    let two : v.parts ≡ 1 = ap (λ (u : Logged). u.parts) new in
    let put_none : h.put ≡ [] = sym (mine.deals may).1 ∙ ap (λ (u : Logged). u.put) new in
    let parts = sum_set (λ (u : Logged). u.parts) views port v w at in
    let Kn = Knows h.dealer share h.passes h.put (length h.gone) in
    record {
      dealer = h.dealer;
      share = share;
      passes = h.passes;
      put = h.put;
      gone = h.gone;
      in_order = h.in_order;
      fit = subst (FitFrom share 0) (sym put_none) tt;
      parts = let a = sum_by_push (λ (u : Logged). u.parts) (set views port w) spent_log in let e = h.parts in omega arith;
      taken = λ weight.
          let s = sum_set (λ (u : Logged). sum_by weight u.got) views port v w at in
          let a = sum_by_push (λ (u : Logged). sum_by weight u.got) (set views port w) spent_log in
          let e = h.taken weight in
          let b : sum_by weight v.got ≡ 0 = ap (λ (u : Logged). sum_by weight u.got) new in
          omega arith;
      known = each_push Kn (set views port w) spent_log (spent h.dealer share h.passes h.put (length h.gone) (length (set views port w)))
          (each_set Kn views port w
          (record {
            deals = λ _. ((mine.deals may).0, sym put_none, sym two ∙ sym one);
            share_is = λ _. refl;
            before = All-nil (IsBefore (length h.gone));
            marks_are = omega arith;
            idle = λ _. refl;
          })
          (λ j u other there.
          let theirs = h.known j u there in
          let idle = idle_else items views h port v at one j u other there in record {
            deals = λ d. absurd (other ((theirs.deals d).0 ∙ sym (mine.deals may).0));
            share_is = λ less. absurd (omega arith);
            before = theirs.before;
            marks_are = theirs.marks_are;
            idle = theirs.idle;
          }));
    }

-- one more pass that takes tasks
pub admits : (port : ℕ) (v : Logged) → v.deals ≡ true → 0 < v.parts → Forks Dealing port v (record v { passes = v.passes + 1 }) (thief_log v.share)
admits port v may some_part items views h at =
    let mine = h.known port v at in
    let w : Logged = record v { passes = v.passes + 1 } in
    let r : Logged = thief_log v.share in
    let parts = sum_set (λ (u : Logged). u.parts) views port v w at in
    let Kn = Knows h.dealer h.share (h.passes + 1) h.put (length h.gone) in
    record {
      dealer = h.dealer;
      share = h.share;
      passes = h.passes + 1;
      put = h.put;
      gone = h.gone;
      in_order = h.in_order;
      fit = h.fit;
      parts = let a = sum_by_push (λ (u : Logged). u.parts) (set views port w) r in let e = h.parts in omega arith;
      taken = λ weight.
          let s = sum_set (λ (u : Logged). sum_by weight u.got) views port v w at in
          let a = sum_by_push (λ (u : Logged). sum_by weight u.got) (set views port w) r in
          let e = h.taken weight in
          omega arith;
      known = each_push Kn (set views port w) r
          (record { deals = λ d. absurd (false≢true d); share_is = λ _. mine.share_is some_part; before = All-nil (IsBefore (length h.gone)); marks_are = omega arith; idle = λ _. refl })
          (each_set Kn views port w
          (record {
            deals = λ _. ((mine.deals may).0, (mine.deals may).1, ap (λ (n : ℕ). n + 1) (mine.deals may).2);
            share_is = mine.share_is;
            before = mine.before;
            marks_are = mine.marks_are;
            idle = mine.idle;
          })
          (λ j u other there. let theirs = h.known j u there in record {
            deals = λ d. absurd (other ((theirs.deals d).0 ∙ sym (mine.deals may).0));
            share_is = theirs.share_is;
            before = theirs.before;
            marks_are = theirs.marks_are;
            idle = theirs.idle;
          }));
    }

-- a pass is taken in
pub takes_in : (port : ℕ) (v : Logged) (other : ℕ) (u : Logged) → v.deals ≡ true → u.deals ≡ false → 0 < v.parts → Merges Dealing port v other u (joined_log v u) spent_log
takes_in port v other u may takes some_part items views h at two at' =
    let both = joined_log v u in
    let mine = h.known port v at in
    let was : get_elem? views other ≡ some u =
    ⊎_elim (λ (x : (other ≡ port) × (both ≡ u)). absurd (two x.0)) (λ (x : (other ≢ port) × (get_elem? views other ≡ some u)). x.1) (at_set views port other both u at') in
    let theirs = h.known other u was in
    let Kn = Knows h.dealer h.share h.passes h.put (length h.gone) in
    let first : List Logged = set views port both in
    let parts = sum_set (λ (y : Logged). y.parts) views port v both at in
    let parts' = sum_set (λ (y : Logged). y.parts) first other u spent_log at' in
    record {
      dealer = h.dealer;
      share = h.share;
      passes = h.passes;
      put = h.put;
      gone = h.gone;
      in_order = h.in_order;
      fit = h.fit;
      parts = let e = h.parts in omega arith;
      taken = λ weight.
          let s = sum_set (λ (y : Logged). sum_by weight y.got) views port v both at in
          let s' = sum_set (λ (y : Logged). sum_by weight y.got) first other u spent_log at' in
          let a = sum_by-append weight v.got u.got in
          let e = h.taken weight in
          omega arith;
      known = each_set Kn first other spent_log (spent h.dealer h.share h.passes h.put (length h.gone) other)
          (λ j y apart there.
          each_set (λ (k : ℕ) (y : Logged). k ≢ other → Kn k y) views port both
          (λ _. record {
            deals = λ _. mine.deals may;
            share_is = λ _. mine.share_is some_part;
            before = All-append (IsBefore (length h.gone)) v.got u.got mine.before theirs.before;
            marks_are = let a = sum_by-append (λ (x : Took). mark_of x.task) v.got u.got in let b = mine.marks_are in let c = theirs.marks_are in omega arith;
            idle = λ none. absurd (omega arith);
          })
          (λ k y not_port at_k not_other. h.known k y at_k) j y there apart);
    }

-- all that was put and taken
pub settles : (port : ℕ) (v : Logged) → v.deals ≡ true → v.parts ≡ v.passes → Learns Dealing port v (Settled v)
settles port v may all items views h at =
    let mine = h.known port v at in
    let one : h.passes ≡ v.parts = sym (mine.deals may).2 ∙ sym all in
    record {
      gone = h.gone;
      in_order = (mine.deals may).1 ∙ h.in_order;
      taken = λ weight.
          sym (sum_alone (λ (u : Logged). sum_by weight u.got) views port v at
          (λ j u apart there. ap (λ (got : List Took). sum_by weight got) ((h.known j u there).idle (idle_else items views h port v at one j u apart there))))
          ∙ h.taken weight;
    }
