use Rattle.std.proofs.Common.{◌≡◌, ℕ, ◌<◌, ◌≤◌, List, [], ◌∷◌, ◌++◌, ◌⊎◌, inl, inr, refl, sym, subst, arith, get_or, length, set, Bool, true, false, ap, get_or-set_same, get_or-set_other, ◌∙◌, length-set}
use Rattle.std.proofs.lemmas.List.{get_or_default}
use Rattle.std.specs.Prelude.{Vec}
use Rattle.std.specs.declared.alloc.Global.{Global}
use Rattle.std.specs.BTreeSet.{insert_key}
use Rattle.std.specs.Ordering.{nat_cmp, MatchOrdering}
use Rattle.std.specs.declared.cmp.Ordering.{Ordering}
use Rattle.std.proofs.lemmas.Cmp.{ranked}
use Rattle.std.specs.declared.cmp.Ordering.TheVariants.{Less}
use Rattle.std.specs.BTreeMap.Range.{IsLtBy}
use Rattle.std.specs.List.{All}
use Rattle.std.proofs.lemmas.Bool.{cases_lt, cases_eq, cases_Bool}
use Rattle.wit_order.specs.declared.sorter.Sorter.{Sorter}
use Rattle.wit_order.specs.Order.{Has, Leads, IsNext, AreNext, IsLeastOrder}
use Rattle.wit_order.specs.Places.{Rows, row, Needs, IsCircle, IsSorted}
use Rattle.wit_order.proofs.Lists.{has_get, has_place, has_insert, has_inserted, has_last, has_was, has_more, row_past, row_read, row_set_same, row_set_other}
use Rattle.wit_order.proofs.Orders.{next_least, order_no_circle, leads_same}
use Rattle.wit_order.specs.Sorter.{is_set, Settles, Settled, Stance, late_yet, waits, ripe, stands, AreTurned, Follows, Takes, Sorting}

-- a look at a row, from what it wrote
pub settles_from : (g : Rows) (i : ℕ) (old new : Sorter) (at : ℕ) (wanted : List ℕ)
    → wanted ≡ row g i
    → i < length old.cursors.items
    → new.placed.items ≡ old.placed.items
    → new.cursors.items ≡ set old.cursors.items i at
    → get_or old.cursors.items i 0 ≤ at
    → at ≤ length wanted
    → ((k : ℕ) → get_or old.cursors.items i 0 ≤ k → k < at → is_set old.placed.items (get_or wanted k 0) ≡ true)
    → (at < length wanted → is_set old.placed.items (get_or wanted at 0) ≡ false)
    → (at ≡ length wanted → new.ready.keys ≡ insert_key nat_cmp old.ready.keys i)
    → (at < length wanted → new.ready.keys ≡ old.ready.keys)
    → Settles g i old new
settles_from g i old new at wanted e l flags cursors low upto passed stops full partial =
    let here : get_or new.cursors.items i 0 ≡ at = rw (cursors, get_or-set_same old.cursors.items i at 0 l) in
    let P : List ℕ → ℕ → Type 0 = λ w a.
    (a ≤ length w)
    × ((k : ℕ) → get_or old.cursors.items i 0 ≤ k → k < a → is_set old.placed.items (get_or w k 0) ≡ true)
    × (a < length w → is_set old.placed.items (get_or w a 0) ≡ false)
    × (a ≡ length w → new.ready.keys ≡ insert_key nat_cmp old.ready.keys i)
    × (a < length w → new.ready.keys ≡ old.ready.keys)
    × (new.cursors.items ≡ set old.cursors.items i a) × (get_or old.cursors.items i 0 ≤ a) in
    let p : P (row g i) (get_or new.cursors.items i 0) =
    subst (λ (w : List ℕ). P w (get_or new.cursors.items i 0)) e (subst (λ (a : ℕ). P wanted a) (sym here) (upto, passed, stops, full, partial, cursors, low)) in
    record { flags = flags; cursors = p.5; from = p.6; upto = p.0; passed = p.1; stops = p.2; full = p.3; partial = p.4 }

-- the same, as a function's steps give it
pub settles_by : (g : Rows) (i : ℕ) (old new : Sorter) (at : ℕ) (wanted : List ℕ) (flags : List Bool) (from : ℕ)
    → wanted ≡ row g i → flags ≡ old.placed.items → from ≡ get_or old.cursors.items i from
    → i < length old.cursors.items
    → new.placed.items ≡ old.placed.items
    → new.cursors.items ≡ set old.cursors.items i at
    → from ≤ at
    → at ≤ length wanted
    → ((k : ℕ) → from ≤ k → k < at → is_set flags (get_or wanted k 0) ≡ true)
    → (at < length wanted → is_set flags (get_or wanted at 0) ≡ false)
    → (at ≡ length wanted → new.ready.keys ≡ insert_key nat_cmp old.ready.keys i)
    → (at < length wanted → new.ready.keys ≡ old.ready.keys)
    → Settles g i old new
settles_by g i old new at wanted flags from e ef ec l same cursors low upto passed stops full partial =
    let c0 : get_or old.cursors.items i 0 ≡ from = get_or_default old.cursors.items i 0 from l ∙ sym ec in
    settles_from g i old new at wanted e l same cursors (omega (arith, c0, low)) upto
    (λ k h1 h2. subst (λ (f : List Bool). is_set f (get_or wanted k 0) ≡ true) ef (passed k (let h : get_or old.cursors.items i 0 ≤ k = h1 in omega (arith, h, c0)) h2))
    (λ h. subst (λ (f : List Bool). is_set f (get_or wanted at 0) ≡ false) ef (stops h))
    full partial

set_keeps : (flags : List Bool) (p i : ℕ) → p < length flags → is_set flags i ≡ true → is_set (set flags p true) i ≡ true
set_keeps flags p i l h =
    elim (cases_eq i p) as (λ _. is_set (set flags p true) i ≡ true) [
      | inl e ↦ subst (λ (z : ℕ). is_set (set flags p true) z ≡ true) (sym e) (get_or-set_same flags p true false l)
      | inr ne ↦ get_or-set_other flags p i true false ne ∙ h
    ]

-- a look at the row of a late place
pub settled_step : (g : Rows) (s new : Sorter) (late rest : ℕ → Type 0) (x : ℕ)
    → Settled g s late → late x → x < length g → Settles g x s new
    → ((i : ℕ) → late i → (i ≡ x) ⊎ rest i) → ((i : ℕ) → rest i → late i)
    → Settled g new rest
settled_step g s new late rest x h is_late lx k parts whole =
    let f : new.placed.items ≡ s.placed.items = k.flags in
    let lc : x < length s.cursors.items = omega (arith, lx, h.cursors) in
    let at : ℕ = get_or new.cursors.items x 0 in
    let other : (i : ℕ) → (i ≡ x → ⊥) → get_or new.cursors.items i 0 ≡ get_or s.cursors.items i 0 =
    λ i ne. ap (λ (c : List ℕ). get_or c i 0) k.cursors ∙ get_or-set_other s.cursors.items x i at 0 ne in
    let back : (i : ℕ) (b : Bool) → is_set s.placed.items i ≡ b → is_set new.placed.items i ≡ b =
    λ i b e. subst (λ (p : List Bool). is_set p i ≡ b) (sym f) e in
    let ready_parts : (i : ℕ) → Has new.ready.keys i → ((i ≡ x) × (at ≡ length (row g x))) ⊎ Has s.ready.keys i =
    λ i r. elim (cases_lt at (length (row g x))) as (λ _. ((i ≡ x) × (at ≡ length (row g x))) ⊎ Has s.ready.keys i) [
      | inl less ↦ inr (subst (λ (q : List ℕ). Has q i) (k.partial less) r)
      | inr more ↦
          let e : at ≡ length (row g x) = omega (arith, more, k.upto) in
          elim (has_inserted s.ready.keys x i (subst (λ (q : List ℕ). Has q i) (k.full e) r)) as (λ _. ((i ≡ x) × (at ≡ length (row g x))) ⊎ Has s.ready.keys i) [ inl here ↦ inl (here, e) | inr was ↦ inr was ]
    ] in
    let ready_stays : (i : ℕ) → Has s.ready.keys i → Has new.ready.keys i =
    λ i r. elim (cases_lt at (length (row g x))) as (λ _. Has new.ready.keys i) [
      | inl less ↦ subst (λ (q : List ℕ). Has q i) (sym (k.partial less)) r
      | inr more ↦ subst (λ (q : List ℕ). Has q i) (sym (k.full (omega (arith, more, k.upto)))) (has_insert s.ready.keys x i (inr r))
    ] in
    record {
      flags = ap length f ∙ h.flags;
      cursors = ap length k.cursors ∙ length-set s.cursors.items x at ∙ h.cursors;
      upto = λ i li. elim (cases_eq i x) as (λ _. get_or new.cursors.items i 0 ≤ length (row g i)) [
        | inl e ↦ subst (λ (z : ℕ). get_or new.cursors.items z 0 ≤ length (row g z)) (sym e) k.upto
        | inr ne ↦ omega (arith, other i ne, h.upto i li)
      ];
      passed = λ i j li lj. back (get_or (row g i) j 0) true (elim (cases_eq i x) as (λ _. is_set s.placed.items (get_or (row g i) j 0) ≡ true) [
        | inl e ↦ elim (cases_lt j (get_or s.cursors.items i 0)) as (λ _. is_set s.placed.items (get_or (row g i) j 0) ≡ true) [
          | inl less ↦ h.passed i j li less
          | inr more ↦
              let m : get_or s.cursors.items x 0 ≤ j = subst (λ (z : ℕ). get_or s.cursors.items z 0 ≤ j) e more in
              let n : j < get_or new.cursors.items x 0 = subst (λ (z : ℕ). j < get_or new.cursors.items z 0) e lj in
              subst (λ (z : ℕ). is_set s.placed.items (get_or (row g z) j 0) ≡ true) (sym e) (k.passed j m n)
        ]
        | inr ne ↦ h.passed i j li (let l : j < get_or new.cursors.items i 0 = lj in omega (arith, l, other i ne))
      ]);
      place = λ i r. elim (ready_parts i r) as (λ _. i < length g) [ inl here ↦ (let e : i ≡ x = here.0 in omega (arith, e, lx)) | inr was ↦ h.place i was ];
      fresh = λ i r. back i false (elim (ready_parts i r) as (λ _. is_set s.placed.items i ≡ false) [
        | inl here ↦ subst (λ (z : ℕ). is_set s.placed.items z ≡ false) (sym here.0) (h.late_fresh x is_late)
        | inr was ↦ h.fresh i was
      ]);
      done = λ i r. elim (ready_parts i r) as (λ _. get_or new.cursors.items i 0 ≡ length (row g i)) [
        | inl here ↦ subst (λ (z : ℕ). get_or new.cursors.items z 0 ≡ length (row g z)) (sym here.0) here.1
        | inr was ↦ elim (cases_eq i x) as (λ _. get_or new.cursors.items i 0 ≡ length (row g i)) [
          | inl e ↦
              let d : get_or s.cursors.items x 0 ≡ length (row g x) = subst (λ (z : ℕ). get_or s.cursors.items z 0 ≡ length (row g z)) e (h.done i was) in
              let q : at ≡ length (row g x) = omega (arith, d, k.from, k.upto) in
              subst (λ (z : ℕ). get_or new.cursors.items z 0 ≡ length (row g z)) (sym e) q
          | inr ne ↦ other i ne ∙ h.done i was
        ]
      ];
      stance = λ i li. elim (cases_eq i x) as (λ _. Stance g new rest i) [
        | inl e ↦ elim (cases_lt at (length (row g x))) as (λ _. Stance g new rest i) [
          | inl less ↦ subst (λ (z : ℕ). Stance g new rest z) (sym e) (waits less (back (get_or (row g x) at 0) false (k.stops less)))
          | inr more ↦ subst (λ (z : ℕ). Stance g new rest z) (sym e)
              (ripe (subst (λ (q : List ℕ). Has q x) (sym (k.full (omega (arith, more, k.upto)))) (has_insert s.ready.keys x x (inl refl))))
        ]
        | inr ne ↦ elim (h.stance i li) as (λ _. Stance g new rest i) [
          | late_yet l ↦ elim (parts i l) as (λ _. Stance g new rest i) [ inl e ↦ absurd (ne e) | inr r ↦ late_yet r ]
          | waits less flag ↦
              let c : get_or s.cursors.items i 0 ≡ get_or new.cursors.items i 0 = sym (other i ne) in
              waits (omega (arith, less, c)) (back (get_or (row g i) (get_or new.cursors.items i 0) 0) false (subst (λ (z : ℕ). is_set s.placed.items (get_or (row g i) z 0) ≡ false) c flag))
          | ripe r ↦ ripe (ready_stays i r)
          | stands p ↦ stands (back i true p)
        ]
      ];
      closed = λ i j p need. back j true (h.closed i j (subst (λ (q : List Bool). is_set q i ≡ true) f p) need);
      late_fresh = λ i r. back i false (h.late_fresh i (whole i r));
    }

nat_cmp_less : (p i : ℕ) → nat_cmp p i ≡ Less → p < i
nat_cmp_less p i e = subst (λ (o : Ordering). MatchOrdering o (p < i) (p ≡ i) (i < p)) e (ranked p i (nat_cmp p i) refl)

-- a place is taken from those that may come next
pub placed_step : (g t : Rows) (s new : Sorter) (p : ℕ)
    → Settled g s (λ i. i ≡ p) → (Has s.ready.keys p → ⊥) → p < length g → get_or s.cursors.items p 0 ≡ length (row g p)
    → AreTurned g t
    → new.placed.items ≡ set s.placed.items p true → new.cursors.items ≡ s.cursors.items → new.ready.keys ≡ s.ready.keys
    → Settled g new (Has (row t p))
placed_step g t s new p h apart lp end turned f fc fr =
    let flags : List Bool = s.placed.items in
    let lf : p < length flags = omega (arith, lp, h.flags) in
    let P : (List Bool → Type 0) → Type 0 = λ Q. Q (set flags p true) → Q new.placed.items in
    let yes : (i : ℕ) → is_set flags i ≡ true → is_set new.placed.items i ≡ true =
    λ i e. subst (λ (q : List Bool). is_set q i ≡ true) (sym f) (set_keeps flags p i lf e) in
    let here : is_set new.placed.items p ≡ true = subst (λ (q : List Bool). is_set q p ≡ true) (sym f) (get_or-set_same flags p true false lf) in
    let no : (i : ℕ) → (i ≡ p → ⊥) → is_set flags i ≡ false → is_set new.placed.items i ≡ false =
    λ i ne e. subst (λ (q : List Bool). is_set q i ≡ false) (sym f) (get_or-set_other flags p i true false ne ∙ e) in
    let was : (i : ℕ) → (i ≡ p → ⊥) → is_set new.placed.items i ≡ true → is_set flags i ≡ true =
    λ i ne e. sym (get_or-set_other flags p i true false ne) ∙ subst (λ (q : List Bool). is_set q i ≡ true) f e in
    let cur : (i : ℕ) → get_or s.cursors.items i 0 ≡ get_or new.cursors.items i 0 = λ i. ap (λ (c : List ℕ). get_or c i 0) (sym fc) in
    let unready : (i : ℕ) → Has new.ready.keys i → Has s.ready.keys i = λ i r. subst (λ (q : List ℕ). Has q i) fr r in
    let fresh_p : is_set flags p ≡ false = h.late_fresh p refl in
    let row_p : (j : ℕ) → Has (row g p) j → is_set flags j ≡ true = λ j need.
    let k = has_place (row g p) j need in
    let l : k.0 < get_or s.cursors.items p 0 = (let a : k.0 < length (row g p) = k.1 in omega (arith, a, end)) in
    subst (λ (z : ℕ). is_set flags z ≡ true) k.2 (h.passed p k.0 lp l) in
    record {
      flags = ap length f ∙ length-set flags p true ∙ h.flags;
      cursors = ap length fc ∙ h.cursors;
      upto = λ i li. subst (λ (z : ℕ). z ≤ length (row g i)) (cur i) (h.upto i li);
      passed = λ i j li lj. yes (get_or (row g i) j 0) (h.passed i j li (let l : j < get_or new.cursors.items i 0 = lj in omega (arith, l, cur i)));
      place = λ i r. h.place i (unready i r);
      fresh = λ i r. no i (λ e. apart (subst (λ (z : ℕ). Has s.ready.keys z) e (unready i r))) (h.fresh i (unready i r));
      done = λ i r. sym (cur i) ∙ h.done i (unready i r);
      stance = λ i li. elim (h.stance i li) as (λ _. Stance g new (Has (row t p)) i) [
        | late_yet e ↦ stands (subst (λ (z : ℕ). is_set new.placed.items z ≡ true) (sym e) here)
        | waits less flag ↦
            let d : ℕ = get_or (row g i) (get_or s.cursors.items i 0) 0 in
            elim (cases_eq d p) as (λ _. Stance g new (Has (row t p)) i) [
              | inl e ↦ late_yet (turned.all i p (subst (λ (z : ℕ). Has (row g i) z) e (has_get (row g i) (get_or s.cursors.items i 0) less)))
              | inr ne ↦
                  waits (subst (λ (z : ℕ). z < length (row g i)) (cur i) less)
                  (subst (λ (z : ℕ). is_set new.placed.items (get_or (row g i) z 0) ≡ false) (cur i) (no d ne flag))
            ]
        | ripe r ↦ ripe (subst (λ (q : List ℕ). Has q i) (sym fr) r)
        | stands e ↦ stands (yes i e)
      ];
      closed = λ i j e need. yes j (elim (cases_eq i p) as (λ _. is_set flags j ≡ true) [
        | inl at ↦ row_p j (subst (λ (z : ℕ). Has (row g z) j) at need)
        | inr ne ↦ h.closed i j (was i ne e) need
      ]);
      late_fresh = λ i l.
          let need : Has (row g i) p = turned.only i p l in
          elim (cases_eq i p) as (λ _. is_set new.placed.items i ≡ false) [
            | inl at ↦ absurd (let a : is_set flags p ≡ true = row_p p (subst (λ (z : ℕ). Has (row g z) p) at need) in cc)
            | inr ne ↦ no i ne (elim (cases_Bool (is_set flags i)) as (λ _. is_set flags i ≡ false) [
              | inl yes_i ↦ absurd (let a : is_set flags p ≡ true = h.closed i p yes_i need in cc)
              | inr no_i ↦ no_i
            ])
          ];
    }

-- the least is taken out
pub popped_step : (g : Rows) (s new : Sorter) (p : ℕ) (left : List ℕ)
    → Settled g s (λ _. ⊥) → s.ready.keys ≡ p ∷ left → All (IsLtBy nat_cmp p) left
    → new.placed.items ≡ s.placed.items → new.cursors.items ≡ s.cursors.items → new.ready.keys ≡ left
    → Settled g new (λ i. i ≡ p)
popped_step g s new p left h keys above f fc fr =
    let ready : (i : ℕ) → Has new.ready.keys i → Has s.ready.keys i =
    λ i r. subst (λ (q : List ℕ). Has q i) (sym keys) (inr (subst (λ (q : List ℕ). Has q i) fr r)) in
    let flag : (i : ℕ) (b : Bool) → is_set s.placed.items i ≡ b → is_set new.placed.items i ≡ b =
    λ i b e. subst (λ (q : List Bool). is_set q i ≡ b) (sym f) e in
    let cur : (i : ℕ) → get_or s.cursors.items i 0 ≡ get_or new.cursors.items i 0 = λ i. ap (λ (c : List ℕ). get_or c i 0) (sym fc) in
    let first : Has s.ready.keys p = subst (λ (q : List ℕ). Has q p) (sym keys) (inl refl) in
    record {
      flags = ap length f ∙ h.flags;
      cursors = ap length fc ∙ h.cursors;
      upto = λ i li. subst (λ (z : ℕ). z ≤ length (row g i)) (cur i) (h.upto i li);
      passed = λ i j li lj. flag (get_or (row g i) j 0) true (h.passed i j li (let l : j < get_or new.cursors.items i 0 = lj in omega (arith, l, cur i)));
      place = λ i r. h.place i (ready i r);
      fresh = λ i r. flag i false (h.fresh i (ready i r));
      done = λ i r. sym (cur i) ∙ h.done i (ready i r);
      stance = λ i li. elim (h.stance i li) as (λ _. Stance g new (λ i. i ≡ p) i) [
        | late_yet e ↦ absurd e
        | waits less flag_no ↦
            waits (subst (λ (z : ℕ). z < length (row g i)) (cur i) less)
            (subst (λ (z : ℕ). is_set new.placed.items (get_or (row g i) z 0) ≡ false) (cur i) (flag _ false flag_no))
        | ripe r ↦ elim (let q : Has (p ∷ left) i = subst (λ (q : List ℕ). Has q i) keys r in q) as (λ _. Stance g new (λ i. i ≡ p) i) [
          | inl e ↦ late_yet e
          | inr later ↦ ripe (subst (λ (q : List ℕ). Has q i) (sym fr) later)
        ]
        | stands e ↦ stands (flag i true e)
      ];
      closed = λ i j e need. flag j true (h.closed i j (subst (λ (q : List Bool). is_set q i ≡ true) f e) need);
      late_fresh = λ i e. flag i false (subst (λ (z : ℕ). is_set s.placed.items z ≡ false) (sym e) (h.fresh p first));
    }

pub above_apart : (p : ℕ) (left : List ℕ) (i : ℕ) → All (IsLtBy nat_cmp p) left → Has left i → p < i
above_apart p left i above has =
    let k = has_place left i has in
    let less : nat_cmp p (get_or left k.0 0) ≡ Less = above k.0 0 k.1 in
    let r : nat_cmp p i ≡ Less = subst (λ (z : ℕ). nat_cmp p z ≡ Less) k.2 less in
    nat_cmp_less p i r

-- what taking it tells
pub takes_from : (g : Rows) (s new : Sorter) (p : ℕ) (left : List ℕ)
    → Settled g s (λ _. ⊥) → s.ready.keys ≡ p ∷ left → All (IsLtBy nat_cmp p) left
    → Settled g new (λ _. ⊥) → new.placed.items ≡ set s.placed.items p true
    → Takes g p s new
takes_from g s new p left h keys above after flags =
    let first : Has s.ready.keys p = subst (λ (q : List ℕ). Has q p) (sym keys) (inl refl) in
    record {
      settled = after;
      flags = flags;
      place = h.place p first;
      fresh = h.fresh p first;
      needed = λ j need.
          let k = has_place (row g p) j need in
          let l : k.0 < get_or s.cursors.items p 0 = (let a : k.0 < length (row g p) = k.1 in omega (arith, a, h.done p first)) in
          subst (λ (z : ℕ). is_set s.placed.items z ≡ true) k.2 (h.passed p k.0 (h.place p first) l);
      least = λ i li unset all. elim (h.stance i li) as (λ _. p ≤ i) [
        | late_yet e ↦ absurd e
        | waits less flag ↦ absurd (let a : is_set s.placed.items (get_or (row g i) (get_or s.cursors.items i 0) 0) ≡ true = all _ (has_get (row g i) (get_or s.cursors.items i 0) less) in cc)
        | ripe r ↦ elim (let q : Has (p ∷ left) i = subst (λ (q : List ℕ). Has q i) keys r in q) as (λ _. p ≤ i) [
          | inl e ↦ (let q : i ≡ p = e in omega (arith, q))
          | inr later ↦ (let q : p < i = above_apart p left i above later in omega (arith, q))
        ]
        | stands e ↦ absurd (let a : is_set s.placed.items i ≡ true = e in cc)
      ];
    }

-- one that waits leads on to another that waits
pub circle_step : (g : Rows) (s : Sorter) (i : ℕ) → Settled g s (λ _. ⊥) → s.ready.keys ≡ [] → i < length g → is_set s.placed.items i ≡ false
    → (get_or s.cursors.items i 0 < length (row g i)) × (is_set s.placed.items (get_or (row g i) (get_or s.cursors.items i 0) 0) ≡ false)
circle_step g s i h none li unset =
    elim (h.stance i li) as (λ _. (get_or s.cursors.items i 0 < length (row g i)) × (is_set s.placed.items (get_or (row g i) (get_or s.cursors.items i 0) 0) ≡ false)) [
      | late_yet e ↦ absurd e
      | waits less flag ↦ (less, flag)
      | ripe r ↦ absurd (subst (λ (q : List ℕ). Has q i) none r)
      | stands e ↦ absurd (let a : is_set s.placed.items i ≡ true = e in cc)
    ]

onto : List ℕ → List ℕ → List ℕ
onto [] before = before
onto (x ∷ xs) before = onto xs (x ∷ before)

onto_from : (xs before : List ℕ) (i : ℕ) → Has (onto xs before) i → Has xs i ⊎ Has before i
unfolding onto
onto_from [] before i h = inr h
onto_from (x ∷ xs) before i h =
    elim (onto_from xs (x ∷ before) i h) as (λ _. Has (x ∷ xs) i ⊎ Has before i) [
      | inl later ↦ inl (inr later)
      | inr at ↦ elim at as (λ _. Has (x ∷ xs) i ⊎ Has before i) [ inl here ↦ inl (inl here) | inr was ↦ inr was ]
    ]

onto_to : (xs before : List ℕ) (i : ℕ) → Has xs i ⊎ Has before i → Has (onto xs before) i
unfolding onto
onto_to [] before i h = elim h as (λ _. Has before i) [ inl none ↦ absurd none | inr was ↦ was ]
onto_to (x ∷ xs) before i h =
    onto_to xs (x ∷ before) i (elim h as (λ _. Has xs i ⊎ Has (x ∷ before) i) [
      | inl at ↦ elim at as (λ _. Has xs i ⊎ Has (x ∷ before) i) [ inl here ↦ inr (inl here) | inr later ↦ inl later ]
      | inr was ↦ inr (inr was)
    ])

next_more : (n : ℕ) (needs : ℕ → ℕ → Type 0) (before xs : List ℕ) (p : ℕ)
    → AreNext n needs before xs → IsNext n needs (onto xs before) p → AreNext n needs before (xs ++ p ∷ [])
unfolding onto
next_more n needs before [] p h next = (next, tt)
next_more n needs before (x ∷ xs) p h next = (h.0, next_more n needs (x ∷ before) xs p h.1 next)

-- the order grows by the place that is taken
pub sorting_step : (g : Rows) (s new : Sorter) (p : ℕ) (order : List ℕ) → Sorting g s order → Takes g p s new → Sorting g new (order ++ p ∷ [])
sorting_step g s new p order h k =
    let flags : List Bool = s.placed.items in
    let lf : p < length flags = omega (arith, k.place, h.settled.flags) in
    let n : ℕ = length g in
    let within : (i : ℕ) → Has order i → is_set flags i ≡ true = λ i has.
    elim (cases_Bool (is_set flags i)) as (λ _. is_set flags i ≡ true) [ inl y ↦ y | inr e ↦ absurd (h.unplaced i e has) ] in
    let from : (i : ℕ) → Has (onto order []) i → Has order i = λ i r.
    elim (onto_from order [] i r) as (λ _. Has order i) [ inl a ↦ a | inr none ↦ absurd none ] in
    let next : IsNext n (Needs g) (onto order []) p = record {
      ready = record {
        place = k.place;
        new = λ has. h.unplaced p k.fresh (from p has);
        needed = λ j need. onto_to order [] j (inl (h.placed j (k.needed j need)));
      };
      least = λ i r. k.least i r.place
          (elim (cases_Bool (is_set flags i)) as (λ _. is_set flags i ≡ false) [ inl y ↦ absurd (r.new (onto_to order [] i (inl (h.placed i y)))) | inr e ↦ e ])
          (λ j need. within j (from j (r.needed j need)));
    } in
    record {
      settled = k.settled;
      next = next_more n (Needs g) [] order p h.next next;
      placed = λ i e. elim (cases_eq i p) as (λ _. Has (order ++ p ∷ []) i) [
        | inl at ↦ subst (λ (z : ℕ). Has (order ++ p ∷ []) z) (sym at) (has_last order p)
        | inr ne ↦ has_was order (p ∷ []) i (h.placed i (sym (get_or-set_other flags p i true false ne) ∙ subst (λ (q : List Bool). is_set q i ≡ true) k.flags e))
      ];
      unplaced = λ i e has.
          let old : is_set (set flags p true) i ≡ false = subst (λ (q : List Bool). is_set q i ≡ false) k.flags e in
          elim (cases_eq i p) as (λ _. ⊥) [
            | inl at ↦ (let a : is_set (set flags p true) p ≡ false = subst (λ (z : ℕ). is_set (set flags p true) z ≡ false) at old in
                let b : is_set (set flags p true) p ≡ true = get_or-set_same flags p true false lf in cc)
            | inr ne ↦ elim (has_more order p i has) as (λ _. ⊥) [
              | inl at ↦ ne at
              | inr was ↦ h.unplaced i (sym (get_or-set_other flags p i true false ne) ∙ old) was
            ]
          ];
    }

pub on_circle_within : (g : Rows) (i : ℕ) (via : List ℕ) → Leads (length g) (Needs g) i via i → i < length g
on_circle_within g i [] path = row_past g i i path
on_circle_within g i (c ∷ via) path = row_past g i c path.0

-- where all are placed, the order is the least
pub sorting_ends : (g : Rows) (s : Sorter) (order : List ℕ) → Sorting g s order → ((i : ℕ) → i < length g → is_set s.placed.items i ≡ true) → IsSorted g order
sorting_ends g s order h all =
    let least : IsLeastOrder (length g) (Needs g) order = next_least (length g) (Needs g) order h.next (λ i li. h.placed i (all i li)) in
    record {
      least = least;
      no_circle = λ i circle. order_no_circle (length g) (Needs g) order least.is_order i (on_circle_within g i circle.0 circle.1) circle;
    }

-- none is late any more
pub settled_less : (g : Rows) (s : Sorter) (late : ℕ → Type 0) → ((i : ℕ) → late i → ⊥) → Settled g s late → Settled g s (λ _. ⊥)
settled_less g s late none h = record {
  flags = h.flags;
  cursors = h.cursors;
  upto = h.upto;
  passed = h.passed;
  place = h.place;
  fresh = h.fresh;
  done = h.done;
  stance = λ i li. elim (h.stance i li) as (λ _. Stance g s (λ _. ⊥) i) [ late_yet l ↦ absurd (none i l) | waits a b ↦ waits a b | ripe r ↦ ripe r | stands e ↦ stands e ];
  closed = h.closed;
  late_fresh = λ i l. absurd l;
}

pub circle_reads : (g : Rows) (s : Sorter) (i cur : ℕ) (v : Vec ℕ Global) → Settled g s (λ _. ⊥) → s.ready.keys ≡ [] → i < length g → is_set s.placed.items i ≡ false
    → cur ≡ get_or s.cursors.items i cur → v ≡ get_or g i v
    → (cur < length v.items) × ((at : ℕ) → at ≡ get_or v.items cur at → Has (row g i) at × (is_set s.placed.items at ≡ false) × Follows g s i at)
circle_reads g s i cur v h none li unset ec ev =
    let lc : i < length s.cursors.items = omega (arith, li, h.cursors) in
    let e : get_or s.cursors.items i 0 ≡ cur = get_or_default s.cursors.items i 0 cur lc ∙ sym ec in
    let r : row g i ≡ v.items = row_read g i v li ev in
    let k = circle_step g s i h none li unset in
    let P : List ℕ → ℕ → Type 0 = λ w c. (c < length w) × (is_set s.placed.items (get_or w c 0) ≡ false) in
    let p : P v.items cur = subst (λ (w : List ℕ). P w cur) r (subst (λ (c : ℕ). P (row g i) c) e k) in (
      p.0,
      λ at ea.
          let same : get_or v.items cur 0 ≡ at = get_or_default v.items cur 0 at p.0 ∙ sym ea in
          let Q : List ℕ → ℕ → Type 0 = λ w c. get_or w c 0 ≡ at in
          let q : Q (row g i) (get_or s.cursors.items i 0) = subst (λ (c : ℕ). Q (row g i) c) (sym e) (subst (λ (w : List ℕ). Q w cur) (sym r) same) in (
            subst (λ (w : List ℕ). Has w at) (sym r) (subst (λ (z : ℕ). Has v.items z) same (has_get v.items cur p.0)),
            subst (λ (z : ℕ). is_set s.placed.items z ≡ false) same p.1,
            (k.0, q),
          ),
    )

pub leads_more : (n : ℕ) (needs : ℕ → ℕ → Type 0) (a : ℕ) (via : List ℕ) (b c : ℕ) → Leads n needs a via b → needs b c → Leads n needs a (via ++ b ∷ []) c
leads_more n needs a [] b c path need = (path, need)
leads_more n needs a (d ∷ via) b c path need = (path.0, leads_more n needs d via b c path.1 need)

pub seen_more : (n : ℕ) (needs : ℕ → ℕ → Type 0) (seen : List Bool) (at next : ℕ) → at < length seen → needs at next
    → ((i : ℕ) → is_set seen i ≡ true → (via : List ℕ) × Leads n needs i via at)
    → (i : ℕ) → is_set (set seen at true) i ≡ true → (via : List ℕ) × Leads n needs i via next
seen_more n needs seen at next l need leads i e =
    elim (cases_eq i at) as (λ _. (via : List ℕ) × Leads n needs i via next) [
      | inl same ↦ ([], subst (λ (z : ℕ). needs z next) (sym same) need)
      | inr ne ↦
          let k = leads i (sym (get_or-set_other seen at i true false ne) ∙ e) in
          (k.0 ++ at ∷ [], leads_more n needs i k.0 at next k.1 need)
    ]

follows_needs : (g : Rows) (s : Sorter) (i j : ℕ) → Follows g s i j → Needs g i j
follows_needs g s i j f = subst (λ (z : ℕ). Has (row g i) z) f.1 (has_get (row g i) (get_or s.cursors.items i 0) f.0)

-- the need at which a place waits leads back, where following leads back
pub circle_found : (g : Rows) (s : Sorter) (i : ℕ) (via : List ℕ) → Leads (length g) (Follows g s) i via i → IsCircle g i (get_or s.cursors.items i 0)
circle_found g s i [] f = record { need = f.0; back = inl f.1 }
circle_found g s i (c ∷ via) f = record {
  need = f.0.0;
  back = inr (via, subst (λ (z : ℕ). Leads (length g) (Needs g) z via i) (sym f.0.1) (leads_same (length g) (Follows g s) (Needs g) (follows_needs g s) c via i f.1));
}

-- a row grows by the place
pub add_rows : (t : Rows) (o place : ℕ) (was now : Vec ℕ Global) → o < length t → was ≡ get_or t o was → now.items ≡ was.items ++ place ∷ []
    → Has (row (set t o now) o) place
    × ((i j : ℕ) → Has (row t j) i → Has (row (set t o now) j) i)
    × ((i j : ℕ) → Has (row (set t o now) j) i → Has (row t j) i ⊎ ((i ≡ place) × (j ≡ o)))
add_rows t o place was now l e items =
    let r : row t o ≡ was.items = row_read t o was l e in
    let here : row (set t o now) o ≡ row t o ++ place ∷ [] = row_set_same t o now l ∙ items ∙ ap (λ (w : List ℕ). w ++ place ∷ []) (sym r) in (
      subst (λ (w : List ℕ). Has w place) (sym here) (has_last (row t o) place),
      (λ i j h. elim (cases_eq j o) as (λ _. Has (row (set t o now) j) i) [
        | inl at ↦ subst (λ (z : ℕ). Has (row (set t o now) z) i) (sym at)
            (subst (λ (w : List ℕ). Has w i) (sym here) (has_was (row t o) (place ∷ []) i (subst (λ (z : ℕ). Has (row t z) i) at h)))
        | inr ne ↦ subst (λ (w : List ℕ). Has w i) (sym (row_set_other t o j now ne)) h
      ]),
      (λ i j h. elim (cases_eq j o) as (λ _. Has (row t j) i ⊎ ((i ≡ place) × (j ≡ o))) [
        | inl at ↦ elim (has_more (row t o) place i (subst (λ (w : List ℕ). Has w i) here (subst (λ (z : ℕ). Has (row (set t o now) z) i) at h))) as (λ _. Has (row t j) i ⊎ ((i ≡ place) × (j ≡ o))) [
          | inl e ↦ inr (e, at)
          | inr was ↦ inl (subst (λ (z : ℕ). Has (row t z) i) (sym at) was)
        ]
        | inr ne ↦ inl (subst (λ (w : List ℕ). Has w i) (row_set_other t o j now ne) h)
      ]),
    )
