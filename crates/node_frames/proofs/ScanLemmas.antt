-- A scan frame by frame.
use Rattle.std.proofs.Common.{◌≡◌, ℕ, ◌+◌, ◌<◌, ◌≤◌, true, [], ◌++◌, sym, ap, ◌∙◌, subst, arith, append-nil}
use mathlib.Core.Logic.{dite}
use native.Mathlib.Decide.{ℕ_discrete}
use Rattle.frame_words.specs.AddingUp.{LooksAddUp, LooksTell}
use Rattle.frame_words.specs.FrameWords.{frame_word}
use Rattle.frame_words.specs.Taking.{Takes}
use Rattle.frame_words.specs.Tails.{looked}
use Rattle.frame_words.specs.Refusals.{Refuses, IsOwn, AddsRefusal}
use Rattle.frame_words.specs.declared.view.View.{View}
use Rattle.node_frames.specs.Scans.{ScansAll, ScansTo}

-- no looks are the tail of none
pub looked-nil : (v : View) → v ≡ looked v []
looked-nil v = ap (λ ls. record v { looks = ls }) (sym (append-nil v.looks))

pub scans_none : (first : ℕ) (v : View) → ScansAll first first v v
scans_none first v = record { tail = []; loads = tt; after = looked-nil v; refused = λ frame from to. absurd (omega arith); own = λ alone frame from to. absurd (omega arith) }

pub scans_more : LooksAddUp → LooksTell → (first n : ℕ) (v m w : View) → ScansAll first n v m → AddsRefusal m (frame_word n) w → ScansAll first (n + 1) v w
scans_more looks tell first n v m w s a = record {
  tail = s.tail ++ a.looks;
  loads = looks.loads s.tail a.looks s.loads a.loads;
  after = a.after ∙ ap (λ (u : View). looked u a.looks) s.after ∙ looks.looked_twice v s.tail a.looks;
  refused = λ frame from to. dite (ℕ_discrete frame n)
      (λ e. subst (λ f. Refuses (s.tail ++ a.looks) (frame_word f)) (sym e) (tell.refused_behind s.tail a.looks (frame_word n) (tell.refused m (frame_word n) w a)))
      (λ ne. tell.refused_longer s.tail a.looks (frame_word frame) (s.refused frame from (omega arith)));
  own = λ alone frame from to. dite (ℕ_discrete frame n)
      (λ e. subst (λ f. IsOwn v (frame_word f)) (sym e) (subst (λ (u : View). u.alone ≡ true → IsOwn u (frame_word n)) s.after a.own alone))
      (λ ne. s.own alone frame from (omega arith));
}

pub scans_to : (first last n g : ℕ) (v m w : View) → ScansAll first n v m → first ≤ n → n < last → Takes m (frame_word n) g w → ScansTo first last n g v w
scans_to first last n g v m w s from to t = record {
  tail = s.tail;
  loads = s.loads;
  within = (from, to);
  lower = λ frame above below. s.refused frame above below;
  own = λ alone frame above below. s.own alone frame above below;
  took = subst (λ (u : View). Takes u (frame_word n) g w) s.after t;
}
