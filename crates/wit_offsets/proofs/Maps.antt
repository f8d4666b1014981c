-- Walks over the values of a map that are changed in place, from the first on.
use Rattle.std.proofs.Common.{◌≡◌, ℕ, ◌<◌, ◌≤◌, ◌+◌, zero, suc, List, [], ◌∷◌, ◌++◌, Option, Some, None, map, refl, sym, subst, ap, ◌∙◌, arith, get_or, length, set}
use Rattle.std.specs.Prelude.{slice_get}
use Rattle.std.specs.Borrow.{MutBor}
use Rattle.std.specs.List.{flat_map}
use Rattle.std.specs.Option.{option_copied_mut}
use Rattle.indexmap.specs.IndexMap.{IndexMap, with_entries, with_value_at, values}
use Rattle.indexmap.specs.Layout.{set_value_at}
use Rattle.wit_words.specs.declared.source_map.Span.{Span}
use Rattle.wit_offsets.specs.declared.shift.Shift.{Shift}
use Rattle.wit_offsets.specs.Offsets.{values_by}
use Rattle.wit_offsets.specs.Walks.{Walks, noted, span_within}
use Rattle.wit_offsets.proofs.Lists.{Walked, walked_more, walked_all, mapped_length}

module _ {X : Type 0} where
  -- the value that a reference shows
  pub shown : (xs : List X) (k : ℕ) (lent : Option (MutBor X)) (item : MutBor X) → option_copied_mut lent ≡ slice_get xs k → lent ≡ Some item → slice_get xs k ≡ Some item.now
  shown xs k lent item value is = sym value ∙ ap option_copied_mut is

  pub not_shown : (xs : List X) (k : ℕ) (lent : Option (MutBor X)) → option_copied_mut lent ≡ slice_get xs k → lent ≡ None → slice_get xs k ≡ None
  not_shown xs k lent value is = sym value ∙ ap option_copied_mut is

module _ {K X : Type 0} where
  -- the entry of a value
  entry_there : (es : List (K × X)) (k : ℕ) (x : X) → slice_get (map (λ (e : K × X). e.1) es) k ≡ Some x
      → (e : K × X) × (k < length es) × (get_or es k e ≡ e) × (e.1 ≡ x) × ((w : X) → set_value_at es k w ≡ set es k (e.0, w))
  entry_there [] k x h = absurd cc
  entry_there (e ∷ es) zero x h = (e, omega arith, refl, cc, λ w. refl)
  entry_there (e ∷ es) (suc k) x h =
      let r = entry_there es k x h in
      (r.0, omega (arith, r.1), r.2, r.3, λ w. ap (λ (fs : List (K × X)). e ∷ fs) (r.4 w))

  none_there : (es : List (K × X)) (k : ℕ) → slice_get (map (λ (e : K × X). e.1) es) k ≡ None → length es ≤ k
  none_there [] k h = omega arith
  none_there (e ∷ es) zero h = absurd cc
  none_there (e ∷ es) (suc k) h = omega (arith, none_there es k h)

  spans_of : (spans : X → List Span) (es : List (K × X)) → flat_map (λ (e : K × X). spans e.1) es ≡ flat_map spans (map (λ (e : K × X). e.1) es)
  spans_of spans [] = refl
  spans_of spans (e ∷ es) = ap (λ (ss : List Span). spans e.1 ++ ss) (spans_of spans es)

module _ {K X : Type 0} (by : (Span → Span) → X → X) (spans : X → List Span) where
  -- an entry, which has the places of its value
  abbrev pub entry_by : (Span → Span) → K × X → K × X
  entry_by f e = (e.0, by f e.1)

  abbrev pub entry_spans : K × X → List Span
  entry_spans e = spans e.1

  entry_walks : (before after : Shift) (d e : K × X) (x w : X) → d ≡ e → e.1 ≡ x → Walks by spans before x after w → Walks entry_by entry_spans before d after (e.0, w)
  entry_walks before after d e x w same is walks =
      let on : Walks by spans before e.1 after w = subst (λ (y : X). Walks by spans before y after w) (sym is) walks in
      subst (λ (y : K × X). Walks entry_by entry_spans before y after (e.0, w)) (sym same)
      (record { offset = on.offset; passes = on.passes; moved = ap (λ (y : X). (e.0, y)) on.moved })

  module _ {S : Type 0} where
    -- the walk has gone over the first of them
    pub record WalkedValues (k : ℕ) (before : Shift) (old : IndexMap K X S) (now : Shift) (new : IndexMap K X S) : Type 0 where
      pub so_far : Walked entry_by entry_spans k before old.entries now new.entries
      pub whole : new ≡ with_entries old new.entries

    walked_length : (k : ℕ) (before now : Shift) (old new : IndexMap K X S) → WalkedValues k before old now new → length new.entries ≡ length old.entries
    walked_length k before now old new w = ap length w.so_far.moved ∙ mapped_length (entry_by (span_within before.offset)) k old.entries

    -- and over one more
    pub walked_value : (k : ℕ) (before now after : Shift) (old new : IndexMap K X S) (x w : X) → WalkedValues k before old now new → slice_get (values new) k ≡ Some x → Walks by spans now x after w
        → WalkedValues (k + 1) before old after (with_value_at new k w)
    walked_value k before now after old new x w so_far there walks =
        let e = entry_there new.entries k x there in
        let size = walked_length k before now old new so_far in
        record {
          so_far = subst (Walked entry_by entry_spans (k + 1) before old.entries after) (sym (e.4 w))
              (walked_more entry_by entry_spans k before now after old.entries new.entries e.0 (e.0.0, w) so_far.so_far (omega (arith, e.1, size)) (entry_walks now after (get_or new.entries k e.0) e.0 x w e.2 e.3 walks));
          whole = ap (λ (m : IndexMap K X S). with_entries m (set_value_at new.entries k w)) so_far.whole;
        }

    -- there is one at each place below the length
    pub walked_within : (k : ℕ) (before now : Shift) (old new : IndexMap K X S) → WalkedValues k before old now new → slice_get (values new) k ≡ None → k < length old.entries → ⊥
    walked_within k before now old new so_far none within =
        let size = walked_length k before now old new so_far in
        omega (arith, none_there new.entries k none, size, within)

    -- over all of them
    pub walked_values : (k : ℕ) (before now : Shift) (old new : IndexMap K X S) → WalkedValues k before old now new → length old.entries ≤ k → Walks (λ f. values_by (by f)) (λ m. flat_map spans (values m)) before old now new
    walked_values k before now old new so_far past =
        let all = walked_all entry_by entry_spans k before now old.entries new.entries so_far.so_far past in
        record {
          offset = all.offset;
          passes = all.passes ∙ ap (noted before.offset before.passes) (spans_of spans old.entries);
          moved = so_far.whole ∙ ap (with_entries old) all.moved;
        }
