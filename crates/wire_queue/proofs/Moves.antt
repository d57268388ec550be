-- Each move keeps the rule of a wire.
use Rattle.std.proofs.Common.{◌≡◌, ◌≢◌, ℕ, ◌≤◌, true, List, [], ◌∷◌, ◌++◌, map, length, set, refl, sym, ap, ◌∙◌, subst, ⊎_elim, append_assoc, arith}
use mathlib.Core.Option.{some}
use lib.ListN.{get_elem?}
use Rattle.std.specs.List.{All}
use Rattle.std.proofs.lemmas.Bool.{false≢true}
use Rattle.std.proofs.lemmas.List.{map_push, length-map, length-append}
use Rattle.std.proofs.lemmas.List.Elements.{All-nil, All-push, All-head, All-tail}
use Rattle.crossbeam_queue.proofs.Lists.{at_set}
use Rattle.crossbeam_queue.specs.Fifo.{Pushes, Pops, Forks, Merges, Learns}
use Rattle.wire_queue.specs.Packets.{Packet, packet_of}
use Rattle.wire_queue.specs.Lines.{Line, Fits, no_line}
use Rattle.wire_queue.specs.Logs.{Logged, nothing_known, sender_log, taker_log, joined_log, spent_log}
use Rattle.wire_queue.specs.WireRule.{Knows, Ordered}
use Rattle.wire_queue.specs.declared.packet.WirePacket.{WirePacket}
use Rattle.wire_queue.proofs.Views.{each_one, each_set, each_push}

pub begins : Ordered [] (nothing_known ∷ [])
begins = record {
  line = no_line;
  sender = 0;
  taker = 0;
  accepted = [];
  taken = [];
  in_order = refl;
  fit = All-nil (Fits no_line);
  known = each_one (Knows no_line 0 0 [] []) nothing_known (record { sends = λ _. (refl, refl, refl); takes = λ _. (refl, refl, refl) });
}

pub accepts : (n pass : ℕ) (v : Logged) (x : WirePacket) → v.sends ≡ true → Fits v.line (packet_of x) → Pushes Ordered n pass v x (λ w. w ≡ record v { accepted = v.accepted ++ packet_of x ∷ [] })
accepts n pass v x may fits items views _ h at =
    let p = packet_of x in
    let w : Logged = record v { accepted = v.accepted ++ p ∷ [] } in
    let mine = h.known pass v at in
    let all : List Packet = h.accepted ++ p ∷ [] in (
      w,
      record {
        line = h.line;
        sender = h.sender;
        taker = h.taker;
        accepted = all;
        taken = h.taken;
        in_order = ap (λ l. l ++ p ∷ []) h.in_order ∙ append_assoc h.taken (map packet_of items) (p ∷ []) ∙ ap (λ l. h.taken ++ l) (sym (map_push packet_of items x));
        fit = subst (All (Fits h.line)) (sym (map_push packet_of items x)) (All-push (Fits h.line) (map packet_of items) p h.fit (subst (λ line. Fits line p) (mine.sends may).2 fits));
        known = each_set (Knows h.line h.sender h.taker all h.taken) views pass w
            (record { sends = λ _. ((mine.sends may).0, ap (λ l. l ++ p ∷ []) (mine.sends may).1, (mine.sends may).2); takes = mine.takes })
            (λ j u other there. let theirs = h.known j u there in record { sends = λ s. absurd (other ((theirs.sends s).0 ∙ sym (mine.sends may).0)); takes = theirs.takes });
      },
      refl,
    )

pub takes_one : (pass : ℕ) (v : Logged) → v.takes ≡ true → Pops Ordered pass v (λ x w. (w ≡ record v { taken = v.taken ++ packet_of x ∷ [] }) × Fits v.line (packet_of x))
takes_one pass v may x items views h at =
    let p = packet_of x in
    let w : Logged = record v { taken = v.taken ++ p ∷ [] } in
    let mine = h.known pass v at in
    let got : List Packet = h.taken ++ p ∷ [] in (
      w,
      record {
        line = h.line;
        sender = h.sender;
        taker = h.taker;
        accepted = h.accepted;
        taken = got;
        in_order = h.in_order ∙ sym (append_assoc h.taken (p ∷ []) (map packet_of items));
        fit = All-tail (Fits h.line) p (map packet_of items) h.fit;
        known = each_set (Knows h.line h.sender h.taker h.accepted got) views pass w
            (record { sends = mine.sends; takes = λ _. ((mine.takes may).0, ap (λ l. l ++ p ∷ []) (mine.takes may).1, (mine.takes may).2) })
            (λ j u other there. let theirs = h.known j u there in record { sends = theirs.sends; takes = λ t. absurd (other ((theirs.takes t).0 ∙ sym (mine.takes may).0)) });
      },
      (refl, subst (λ line. Fits line p) (sym (mine.takes may).2) (All-head (Fits h.line) p (map packet_of items) h.fit)),
    )

-- a pass with both ends is cut in two, of this wire and with these lists
cut : (items : List WirePacket) (views : List Logged) (pass : ℕ) (v : Logged) (line : Line) (accepted taken : List Packet) → v.sends ≡ true → v.takes ≡ true → (h : Ordered items views) → get_elem? views pass ≡ some v
    → accepted ≡ taken ++ map packet_of items → All (Fits line) (map packet_of items) → Ordered items (set views pass (sender_log line accepted) ++ taker_log line taken ∷ [])
cut items views pass v line accepted taken sends takes h at in_order fit =
    let left = sender_log line accepted in
    let right = taker_log line taken in
    let mine = h.known pass v at in
    let rest : List Logged = set views pass left in
    let K = Knows line pass (length rest) accepted taken in
    record {
      line = line;
      sender = pass;
      taker = length rest;
      accepted = accepted;
      taken = taken;
      in_order = in_order;
      fit = fit;
      known = each_push K rest right (record { sends = λ s. absurd (false≢true s); takes = λ _. (refl, refl, refl) })
          (each_set K views pass left (record { sends = λ _. (refl, refl, refl); takes = λ t. absurd (false≢true t) })
          (λ j u other there. let theirs = h.known j u there in record {
            sends = λ s. absurd (other ((theirs.sends s).0 ∙ sym (mine.sends sends).0));
            takes = λ t. absurd (other ((theirs.takes t).0 ∙ sym (mine.takes takes).0));
          }));
    }

nothing_held : (taken : List Packet) (items : List WirePacket) → [] ≡ taken ++ map packet_of items → map packet_of items ≡ []
nothing_held taken [] none = refl
nothing_held [] (x ∷ items) none = sym none
nothing_held (t ∷ taken) (x ∷ items) none = absurd cc

pub opens : (pass : ℕ) (v : Logged) (line : Line) → v.sends ≡ true → v.takes ≡ true → v.accepted ≡ [] → Forks Ordered pass v (sender_log line []) (taker_log line [])
opens pass v line sends takes none items views h at =
    let mine = h.known pass v at in
    let empty = nothing_held h.taken items (sym none ∙ (mine.sends sends).1 ∙ h.in_order) in
    cut items views pass v line [] [] sends takes h at (sym empty) (subst (All (Fits line)) (sym empty) (All-nil (Fits line)))

pub splits : (pass : ℕ) (v : Logged) → v.sends ≡ true → v.takes ≡ true → Forks Ordered pass v (sender_log v.line v.accepted) (taker_log v.line v.taken)
splits pass v sends takes items views h at =
    let mine = h.known pass v at in
    cut items views pass v v.line v.accepted v.taken sends takes h at
    ((mine.sends sends).1 ∙ h.in_order ∙ ap (λ l. l ++ map packet_of items) (sym (mine.takes takes).1))
    (subst (λ line. All (Fits line) (map packet_of items)) (sym (mine.sends sends).2) h.fit)

pub merges : (pass : ℕ) (v : Logged) (other : ℕ) (w : Logged) → v.sends ≡ true → w.takes ≡ true → Merges Ordered pass v other w (joined_log v w) spent_log
merges pass v other w sends takes items views h at two at' =
    let both = joined_log v w in
    let mine = h.known pass v at in
    let was : get_elem? views other ≡ some w =
    ⊎_elim (λ (x : (other ≡ pass) × (both ≡ w)). absurd (two x.0)) (λ (x : (other ≢ pass) × (get_elem? views other ≡ some w)). x.1) (at_set views pass other both w at') in
    let theirs = h.known other w was in
    let K = Knows h.line pass pass h.accepted h.taken in
    record {
      line = h.line;
      sender = pass;
      taker = pass;
      accepted = h.accepted;
      taken = h.taken;
      in_order = h.in_order;
      fit = h.fit;
      known = each_set K (set views pass both) other spent_log (record { sends = λ s. absurd (false≢true s); takes = λ t. absurd (false≢true t) })
          (λ j u apart there.
          each_set (λ (k : ℕ) (y : Logged). k ≢ other → K k y) views pass both
          (λ _. record { sends = λ _. (refl, (mine.sends sends).1, (mine.sends sends).2); takes = λ _. (refl, (theirs.takes takes).1, (mine.sends sends).2) })
          (λ k y not_pass at_k not_other. let its = h.known k y at_k in record {
            sends = λ s. absurd (not_pass ((its.sends s).0 ∙ sym (mine.sends sends).0));
            takes = λ t. absurd (not_other ((its.takes t).0 ∙ sym (theirs.takes takes).0));
          }) j u there apart);
    }

pub compares : (pass : ℕ) (v : Logged) → v.sends ≡ true → v.takes ≡ true → Learns Ordered pass v (λ items. v.accepted ≡ v.taken ++ map packet_of items)
compares pass v sends takes items views h at =
    let mine = h.known pass v at in (mine.sends sends).1 ∙ h.in_order ∙ ap (λ l. l ++ map packet_of items) (sym (mine.takes takes).1)

pub counts : (pass : ℕ) (v : Logged) → v.sends ≡ true → Learns Ordered pass v (λ items. length items ≤ length v.accepted)
counts pass v sends items views h at =
    let mine = h.known pass v at in
    omega (arith, ap length ((mine.sends sends).1 ∙ h.in_order), length-append h.taken (map packet_of items), length-map items packet_of)

pub spares : (pass : ℕ) (v : Logged) → Forks Ordered pass v v spent_log
spares pass v items views h at =
    let K = Knows h.line h.sender h.taker h.accepted h.taken in
    record {
      line = h.line;
      sender = h.sender;
      taker = h.taker;
      accepted = h.accepted;
      taken = h.taken;
      in_order = h.in_order;
      fit = h.fit;
      known = each_push K (set views pass v) spent_log (record { sends = λ s. absurd (false≢true s); takes = λ t. absurd (false≢true t) })
          (each_set K views pass v (h.known pass v at) (λ j u other there. h.known j u there));
    }
