use Rattle.std.proofs.Common.{rules, ◌≡◌, ◌<◌, map, take, length, slice_get, Some, ap, sym, subst, ◌∙◌, is_some, true≢false, arith, List, [], ◌∷◌, ◌++◌}
use Rattle.std.proofs.lemmas.List.{length-map, map-append}
use Rattle.private_machine.specs.Backing.{Copy}
use Rattle.cow_disk.specs.IndexView.{Index, Cached, copy_in, found}
use Rattle.cow_disk.specs.IndexParts.{cached_of, place_used}
use Rattle.base_words.specs.declared.frame.SharedFrame.{SharedFrame}
use Rattle.cow_disk.specs.declared.index.BlockId.{BlockId}
use Rattle.cow_disk.specs.declared.index.CacheFrame.{CacheFrame}
use Rattle.cow_disk.proofs.IndexLemmas.{fills-one}
use Rattle.cow_disk.proofs.index.SharedIndex.keep.Goals as goal

pub returns-then-knows : goal.returns-then-knows
returns-then-knows c = record {
  known = λ none. true≢false (c.if-knows.ensures ∙ ap is_some (ap (λ (i : Index). found i.entries c.args.disk c.args.block) c.self.view_is ∙ none));
  left =
      let lt : c.len-next.result < length c.deref.result.now = c.in-Some.ensures.some in
      let n : c.len-next.result ≡ length c.self.inside.entries.entries = c.len-next.ensures.len in
      let m : length c.deref.result.now ≡ length c.self.inside.frames.items = ap length c.deref.ensures.value in
      let few : length c.self.inside.entries.entries < length c.self.inside.frames.items = omega (arith, lt, n, m) in
      subst (λ (i : Index). length i.entries < length i.frames) c.self.view_is (subst (λ k. k < length c.self.inside.frames.items) (sym (length-map c.self.inside.entries.entries cached_of)) few);
  same = λ i. c.args.self.now;
}

pub invariant_of-self-2 : goal.invariant_of-self-2
invariant_of-self-2 c =
    let entries = c.self.inside.entries.entries in
    let frames : List CacheFrame = c.self.inside.frames.items in
    let e : BlockId × SharedFrame = (record { disk = c.args.disk; block = c.args.block }, c.in_ok-kept.kept) in
    let next : slice_get frames (length entries) ≡ Some (place_used e) = search rules in
    record { in_places = subst (λ es. map place_used es ≡ take (length es) frames) (sym c.in_ok-add.ensures.ok) (fills-one entries frames e c.self.invariant.in_places next) }

pub returns : goal.returns
returns c =
    let entries = c.self.inside.entries.entries in
    let frames : List CacheFrame = c.self.inside.frames.items in
    let e : BlockId × SharedFrame = (record { disk = c.args.disk; block = c.args.block }, c.in_ok-kept.kept) in
    let next : slice_get frames (length entries) ≡ Some c.in-Some.place = search rules in
    record {
      unknown = search rules;
      place = c.in-Some.place;
      next = subst (λ (i : Index). slice_get i.frames (length i.entries) ≡ Some c.in-Some.place) c.self.view_is (ap (λ n. slice_get frames n) (length-map entries cached_of) ∙ next);
      is_it = search rules;
      after =
          ap (λ es. record { entries = map cached_of es; frames = frames }) (c.in_ok-add.ensures.ok)
          ∙ ap (λ (cs : List Cached). record { entries = cs; frames = frames }) (map-append cached_of entries (e ∷ []))
          ∙ ap (λ (x : Copy). record { entries = map cached_of entries ++ record { disk = c.args.disk; block = c.args.block; copy = x } ∷ []; frames = frames }) (sym (c.in_ok-kept.ensures.1))
          ∙ ap (λ (i : Index). record { entries = i.entries ++ record { disk = c.args.disk; block = c.args.block; copy = copy_in c.in_ok-kept.answer } ∷ []; frames = i.frames }) c.self.view_is;
    }
