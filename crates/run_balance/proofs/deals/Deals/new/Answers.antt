use Rattle.std.proofs.Common.{◌≡◌, ◌≤◌, ℕ, List, length, map, take, drop, ◌++◌, sym, ap, ◌∙◌, subst, arith}
use lib.Seq.{take-append_seam}
use Rattle.run_balance.specs.Shares.{flat}
use Rattle.run_balance.specs.Sides.{Deque}
use Rattle.run_balance.specs.Owners.{total_of}
use Rattle.run_balance.specs.Making.{AreMade, AreRows, ArePlaced, HavePlaces, AreNewOwners, passes_after, deque_made, count_made}
use Rattle.run_balance.specs.Gathering.{AreAllOf}
use Rattle.run_balance.specs.Deques.{deque_of}
use Rattle.run_balance.specs.declared.making.Made.{Made}
use Rattle.run_balance.specs.declared.owner.Owner.{Owner}
use Rattle.run_balance.proofs.NewOwners.{have_places, all_new, all_of, total_made}
use Rattle.run_balance.proofs.Closes.{written_back}
use Rattle.run_balance.proofs.deals.Deals.new.Goals as goal

pub place_all-requires : goal.place_all-requires
place_all-requires c =
    let shares = c.args.shares.now in
    let n = length shares in
    let count : c.len-count.result ≡ n = c.len-count.ensures in
    let first = c.in_ok-made.ensures in
    let made : List Made = c.rows_for.new.made in
    let old : List Made = c.in_ok-made.made.items in
    let given : AreMade (flat shares) c.len-count.result (λ _. 1) c.as_mut_slice.result.now = subst (λ (x : ℕ × List Made). AreMade (flat shares) x.0 (λ _. 1) x.1) (λ i. (sym count i, sym c.as_mut_slice.ensures.value i)) first in
    let new : AreMade (flat shares) n (passes_after n) made = subst (λ (k : ℕ). AreMade (flat shares) k (passes_after k) made) count (c.in_ok-rows.ensures.new (flat shares) given) in
    let rows : AreRows n made c.in_ok-rows.rows.items = subst (λ (k : ℕ). AreRows k made c.in_ok-rows.rows.items) count c.in_ok-rows.ensures.rows in
    let len : c.in_ok-made.made.len ≡ length made = sym c.as_mut_slice.ensures.len ∙ given.long ∙ sym new.long in
    let back : take c.in_ok-made.made.len (made ++ drop (length made) old) ≡ made = ap (λ (k : ℕ). take k (made ++ drop (length made) old)) len ∙ take-append_seam made (drop (length made) old) in
    let bare = c.in_ok-owners.ensures in
    subst (λ (x : List Made × List Owner). HavePlaces x.0 x.1) (λ i. (sym back i, sym c.as_mut_slice-2.ensures.value i))
    (have_places shares (passes_after n) made c.in_ok-rows.rows.items c.in_ok-room.room c.in_ok-owners.owners.items new rows bare)

pub returns-clause-fresh : goal.returns-clause-fresh
returns-clause-fresh c =
    let shares = c.args.shares.now in
    let n = length shares in
    let count : c.len-count.result ≡ n = c.len-count.ensures in
    let first = c.in_ok-made.ensures in
    let made : List Made = c.rows_for.new.made in
    let old : List Made = c.in_ok-made.made.items in
    let given : AreMade (flat shares) c.len-count.result (λ _. 1) c.as_mut_slice.result.now = subst (λ (x : ℕ × List Made). AreMade (flat shares) x.0 (λ _. 1) x.1) (λ i. (sym count i, sym c.as_mut_slice.ensures.value i)) first in
    let new : AreMade (flat shares) n (passes_after n) made = subst (λ (k : ℕ). AreMade (flat shares) k (passes_after k) made) count (c.in_ok-rows.ensures.new (flat shares) given) in
    let rows : AreRows n made c.in_ok-rows.rows.items = subst (λ (k : ℕ). AreRows k made c.in_ok-rows.rows.items) count c.in_ok-rows.ensures.rows in
    let len : c.in_ok-made.made.len ≡ length made = sym c.as_mut_slice.ensures.len ∙ given.long ∙ sym new.long in
    let back : take c.in_ok-made.made.len (made ++ drop (length made) old) ≡ made = ap (λ (k : ℕ). take k (made ++ drop (length made) old)) len ∙ take-append_seam made (drop (length made) old) in
    let bare = c.in_ok-owners.ensures in
    let bare_now : List Owner = c.in_ok-owners.owners.items in
    let owners : List Owner = c.place_all.new.owners in
    let placed : ArePlaced made (length made) bare_now owners = subst (λ (x : List Made × List Owner). ArePlaced x.0 (length x.0) x.1 owners) (λ i. (back i, c.as_mut_slice-2.ensures.value i)) c.place_all.ensures in
    let total = total_made (flat shares) n (λ _. 1) old first in
    let room = c.in_ok-room.ensures ∙ ap (λ (l : List Made). Rattle.std.proofs.Common.sum_by count_made l) c.as_slice.ensures.value in
    let fresh = all_new shares made c.in_ok-rows.rows.items c.in_ok-room.room bare_now owners new rows bare placed (let e : total_of (flat shares) ≤ c.in_ok-room.room = omega arith in e) in
    let end : c.from_vec.result ≡ owners = c.from_vec.ensures ∙ written_back owners bare_now c.in_ok-owners.owners.len (sym (placed.long ∙ ap length (sym c.as_mut_slice-2.ensures.value) ∙ c.as_mut_slice-2.ensures.len)) in
    let deques : map deque_of c.in_ok-gates.gates.items ≡ map deque_made made = c.in_ok-gates.ensures ∙ ap (λ (l : List Made). map deque_made l) (c.as_slice-2.ensures.value ∙ back) in
    subst (λ (x : List Deque × List Owner). AreNewOwners x.0 shares x.1) (λ i. (sym deques i, sym end i)) fresh

pub returns-clause-made : goal.returns-clause-made
returns-clause-made c =
    let shares = c.args.shares.now in
    let n = length shares in
    let count : c.len-count.result ≡ n = c.len-count.ensures in
    let first = c.in_ok-made.ensures in
    let made : List Made = c.rows_for.new.made in
    let old : List Made = c.in_ok-made.made.items in
    let given : AreMade (flat shares) c.len-count.result (λ _. 1) c.as_mut_slice.result.now = subst (λ (x : ℕ × List Made). AreMade (flat shares) x.0 (λ _. 1) x.1) (λ i. (sym count i, sym c.as_mut_slice.ensures.value i)) first in
    let new : AreMade (flat shares) n (passes_after n) made = subst (λ (k : ℕ). AreMade (flat shares) k (passes_after k) made) count (c.in_ok-rows.ensures.new (flat shares) given) in
    let rows : AreRows n made c.in_ok-rows.rows.items = subst (λ (k : ℕ). AreRows k made c.in_ok-rows.rows.items) count c.in_ok-rows.ensures.rows in
    let len : c.in_ok-made.made.len ≡ length made = sym c.as_mut_slice.ensures.len ∙ given.long ∙ sym new.long in
    let back : take c.in_ok-made.made.len (made ++ drop (length made) old) ≡ made = ap (λ (k : ℕ). take k (made ++ drop (length made) old)) len ∙ take-append_seam made (drop (length made) old) in
    let bare = c.in_ok-owners.ensures in
    let bare_now : List Owner = c.in_ok-owners.owners.items in
    let owners : List Owner = c.place_all.new.owners in
    let placed : ArePlaced made (length made) bare_now owners = subst (λ (x : List Made × List Owner). ArePlaced x.0 (length x.0) x.1 owners) (λ i. (back i, c.as_mut_slice-2.ensures.value i)) c.place_all.ensures in
    let total = total_made (flat shares) n (λ _. 1) old first in
    let room = c.in_ok-room.ensures ∙ ap (λ (l : List Made). Rattle.std.proofs.Common.sum_by count_made l) c.as_slice.ensures.value in
    let fresh = all_new shares made c.in_ok-rows.rows.items c.in_ok-room.room bare_now owners new rows bare placed (let e : total_of (flat shares) ≤ c.in_ok-room.room = omega arith in e) in
    let end : c.from_vec.result ≡ owners = c.from_vec.ensures ∙ written_back owners bare_now c.in_ok-owners.owners.len (sym (placed.long ∙ ap length (sym c.as_mut_slice-2.ensures.value) ∙ c.as_mut_slice-2.ensures.len)) in
    let deques : map deque_of c.in_ok-gates.gates.items ≡ map deque_made made = c.in_ok-gates.ensures ∙ ap (λ (l : List Made). map deque_made l) (c.as_slice-2.ensures.value ∙ back) in
    subst (λ (x : List Deque × List Owner). AreAllOf x.0 shares x.1) (λ i. (sym deques i, sym end i))
    (all_of shares (passes_after n) made c.in_ok-rows.rows.items c.in_ok-room.room bare_now owners new rows bare placed fresh)
