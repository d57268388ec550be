-- Tasks with their places.
use Rattle.std.proofs.Common.{◌≡◌, ℕ, suc, ◌+◌, List, [], ◌∷◌, ◌++◌, length, sum_by, refl, subst, arith}
use Rattle.std.proofs.lemmas.List.Sums.{sum_by-cons}
use Rattle.run_balance.specs.Logs.{Took, took, placed, mark_of, marks, marks_got}
use Rattle.run_balance.specs.Rule.{FitsAt, FitFrom}
use Rattle.run_balance.specs.declared.task.Task.{Task}

-- one more task
pub weigh_more : (weight : Took → ℕ) (place : ℕ) (tasks : List Task) (task : Task) → sum_by weight (placed place (tasks ++ task ∷ [])) ≡ sum_by weight (placed place tasks) + weight (took (place + length tasks) task)
weigh_more weight place [] task =
    subst (λ (n : ℕ). sum_by weight (took place task ∷ []) ≡ sum_by weight [] + weight (took n task)) (let e : place ≡ place + length {A = Task} [] = omega arith in e)
    (let a = sum_by-cons weight (took place task) [] in omega arith)
weigh_more weight place (t ∷ tasks) task =
    subst (λ (n : ℕ). sum_by weight (took place t ∷ placed (suc place) (tasks ++ task ∷ [])) ≡ sum_by weight (took place t ∷ placed (suc place) tasks) + weight (took n task))
    (let e : suc place + length tasks ≡ place + length (t ∷ tasks) = omega arith in e)
    (let rest = weigh_more weight (suc place) tasks task in
    let a = sum_by-cons weight (took place t) (placed (suc place) (tasks ++ task ∷ [])) in
    let b = sum_by-cons weight (took place t) (placed (suc place) tasks) in omega arith)

-- marks among tasks with places
pub marks_placed : (place : ℕ) (tasks : List Task) → marks_got (placed place tasks) ≡ marks tasks
marks_placed place [] = refl
marks_placed place (t ∷ tasks) =
    let rest = marks_placed (suc place) tasks in
    let a = sum_by-cons (λ (x : Took). mark_of x.task) (took place t) (placed (suc place) tasks) in
    let b = sum_by-cons mark_of t tasks in omega arith

-- the task behind some others stands where they end
pub fit_there : (share : List ℕ) (place : ℕ) (gone : List Task) (task : Task) (items : List Task) → FitFrom share place (gone ++ task ∷ items) → FitsAt share (place + length gone) task
fit_there share place [] task items fit = subst (λ (n : ℕ). FitsAt share n task) (let e : place ≡ place + length {A = Task} [] = omega arith in e) fit.0
fit_there share place (t ∷ gone) task items fit =
    subst (λ (n : ℕ). FitsAt share n task) (let e : suc place + length gone ≡ place + length (t ∷ gone) = omega arith in e) (fit_there share (suc place) gone task items fit.1)

pub fit_more : (share : List ℕ) (place : ℕ) (tasks : List Task) (task : Task) → FitFrom share place tasks → FitsAt share (place + length tasks) task → FitFrom share place (tasks ++ task ∷ [])
fit_more share place [] task fit here = (subst (λ (n : ℕ). FitsAt share n task) (let e : place + length {A = Task} [] ≡ place = omega arith in e) here, tt)
fit_more share place (t ∷ tasks) task fit here =
    (fit.0, fit_more share (suc place) tasks task fit.1 (subst (λ (n : ℕ). FitsAt share n task) (let e : place + length (t ∷ tasks) ≡ suc place + length tasks = omega arith in e) here))
