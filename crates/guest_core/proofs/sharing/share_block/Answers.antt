-- The block's copy lies on the home cell; where there is none, or its word refuses, the block is copied for that.
use Rattle.std.proofs.Common.{◌≡◌, ◌<◌, ℕ, List, Option, inl, inr, refl, sym, ap, ◌∙◌, subst, Bool, true, false, not, ◌&&◌}
use Rattle.std.specs.Prelude.{IfSome, IfNone}
use Rattle.base_words.specs.declared.frame.SharedFrame.{SharedFrame}
use Rattle.private_machine.specs.Backing.{Copy}
use Rattle.private_machine.specs.DeviceAct.{ReadsDisk}
use Rattle.pmap_table.specs.Frames.{shared_copy_of}
use Rattle.isolation_law.specs.GuestState.{GuestState, block, is_dead}
use Rattle.isolation_law.specs.Surroundings.{Surroundings, cell_of_frame, home_cell}
use Rattle.guest_course.specs.CourseView.{state_of}
use Rattle.cow_disk.specs.IndexView.{Cached}
use Rattle.guest_core.specs.Blocks.{blocks_of, LiesOnCell, LieOnCell}
use Rattle.guest_core.specs.Holding.{frames_around}
use Rattle.guest_core.specs.Sharing.{HasCopy}
use Rattle.guest_core.proofs.GivingLemmas.{reads-or-sends}
use Rattle.guest_core.proofs.SharedLemmas.{found-among}
use Rattle.isolation_law.specs.Needs.{may_share_block}
use Rattle.std.specs.Option.{is_none}
use Rattle.guest_core.proofs.sharing.share_block.Goals as goal

same-block : (b c q r : ℕ) → ReadsDisk b q ≡ ReadsDisk c r → b ≡ c
same-block b c q r e = cc

pub returns-in_default-clause-shares : goal.returns-in_default-clause-shares
returns-in_default-clause-shares c =
    let s = state_of c.args.course.now in
    let blocks = blocks_of c.args.resources.now.indexes.now (home_cell s.around) in
    let reads = c.acts_are_at_hand.ensures s s c.requires.left.0 c.args.vcpu.0 c.args.act c.requires.left.1 ∙ c.requires.may.reads in
    let none : (copy : Copy) → HasCopy blocks c.args.disk s c.args.block copy → ⊥ =
    subst (λ (o : Option SharedFrame). IfNone o ((copy : Copy) → HasCopy blocks c.args.disk s c.args.block copy → ⊥)) c.in_default.is c.in_ok-frame.ensures.none in
    record {
      none = record { holding = c.requires.holding; uses_stay = refl };
      copies = λ b q at rests. inr (inl (record {
        none = λ copy has. none copy (subst (λ (k : ℕ). HasCopy blocks c.args.disk s k copy) (same-block b c.args.block q c.args.page.0 (sym at ∙ reads)) has);
        unasked = refl;
      }));
      plain = λ q length to need at is. absurd (reads-or-sends c.args.block c.args.page.0 q length to (sym reads ∙ at));
    }

-- a block may be shared only where the home cell lives
home-alive : (s : GuestState) (b : ℕ) → may_share_block s b ≡ true → is_dead s (home_cell s.around) ≡ false
home-alive s b may = by (is_none (block s b).overlay) (is_dead s (home_cell s.around)) may
  where
    by : (own dead : Bool) → (own && not dead) ≡ true → dead ≡ false
    by true true e = cc
    by true false e = refl
    by false dead e = cc

lies : (w : Surroundings) (blocks : List Cached) (disk b : ℕ) (s : GuestState) (copy : Copy) → LieOnCell w (home_cell w) blocks → HasCopy blocks disk s b copy → (copy.frame < frames_around w) × (cell_of_frame w copy.frame ≡ home_cell w)
lies w blocks disk b s copy all has =
    let found = found-among (LiesOnCell w (home_cell w)) blocks disk b copy all has.known in (
      subst (λ (x : Copy). x.frame < frames_around w) found.2 found.1.within,
      subst (λ (x : Copy). cell_of_frame w x.frame ≡ home_cell w) found.2 found.1.on_cell,
    )

pub hold_too-requires-clause-within : goal.hold_too-requires-clause-within
hold_too-requires-clause-within c =
    let s = state_of c.args.course.now in
    (lies s.around (blocks_of c.args.resources.now.indexes.now (home_cell s.around)) c.args.disk c.args.block s (shared_copy_of c.in-Some.frame) c.requires.blocks
    (subst (λ (o : Option SharedFrame). IfSome o (λ f. HasCopy (blocks_of c.args.resources.now.indexes.now (home_cell s.around)) c.args.disk s c.args.block (shared_copy_of f))) c.in-Some.is c.in_ok-frame.ensures.some)).0

pub hold_too-requires-clause-at_home : goal.hold_too-requires-clause-at_home
hold_too-requires-clause-at_home c =
    let s = state_of c.args.course.now in
    (lies s.around (blocks_of c.args.resources.now.indexes.now (home_cell s.around)) c.args.disk c.args.block s (shared_copy_of c.in-Some.frame) c.requires.blocks
    (subst (λ (o : Option SharedFrame). IfSome o (λ f. HasCopy (blocks_of c.args.resources.now.indexes.now (home_cell s.around)) c.args.disk s c.args.block (shared_copy_of f))) c.in-Some.is c.in_ok-frame.ensures.some)).1

pub returns-then-hold_too-clause-shares : goal.returns-then-hold_too-clause-shares
returns-then-hold_too-clause-shares c =
    let s = state_of c.args.course.now in
    let blocks = blocks_of c.args.resources.now.indexes.now (home_cell s.around) in
    let reads = c.acts_are_at_hand.ensures s s c.requires.left.0 c.args.vcpu.0 c.args.act c.requires.left.1 ∙ c.requires.may.reads in
    let has = subst (λ (o : Option SharedFrame). IfSome o (λ f. HasCopy blocks c.args.disk s c.args.block (shared_copy_of f))) c.in-Some.is c.in_ok-frame.ensures.some in
    let at = (lies s.around blocks c.args.disk c.args.block s (shared_copy_of c.in-Some.frame) c.requires.blocks has).1 in
    record {
      may = c.requires.may;
      bytes = has.bytes;
      lives = ap (is_dead s) at ∙ home-alive s c.args.block c.requires.may.may;
      holds = c.if-hold_too.ensures.holds;
      takes = record { block_read = c.args.block; reads = reads; has = has; adds = c.if-hold_too.ensures.adds };
    }

pub returns-else-hold_too-clause-shares : goal.returns-else-hold_too-clause-shares
returns-else-hold_too-clause-shares c =
    let s = state_of c.args.course.now in
    let reads = c.acts_are_at_hand.ensures s s c.requires.left.0 c.args.vcpu.0 c.args.act c.requires.left.1 ∙ c.requires.may.reads in
    let has = subst (λ (o : Option SharedFrame). IfSome o (λ f. HasCopy (blocks_of c.args.resources.now.indexes.now (home_cell s.around)) c.args.disk s c.args.block (shared_copy_of f))) c.in-Some.is c.in_ok-frame.ensures.some in
    record {
      none = c.if-hold_too.ensures.none;
      copies = λ b q at rests. inr (inr (record {
        copy = shared_copy_of c.in-Some.frame;
        has = subst (λ (k : ℕ). HasCopy (blocks_of c.args.resources.now.indexes.now (home_cell s.around)) c.args.disk s k (shared_copy_of c.in-Some.frame)) (sym (same-block b c.args.block q c.args.page.0 (sym at ∙ reads))) has;
        refuses = c.if-hold_too.ensures.refuses;
      }));
      plain = λ q length to need at is. absurd (reads-or-sends c.args.block c.args.page.0 q length to (sym reads ∙ at));
    }
