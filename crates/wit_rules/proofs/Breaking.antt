-- What is broken by a part is broken by the whole, and what no part breaks the whole keeps.
use Rattle.std.proofs.Common.{◌≡◌, ℕ, ◌+◌, ◌<◌, List, Option, Some, None, map, length, sym, subst, ap, ◌∙◌, refl, below_more}
use Rattle.std.proofs.lemmas.Option.{slice_get_within, slice_get-map, same_Some}
use Rattle.std.specs.Prelude.{slice_get, option_map}
use Rattle.wit_scopes.specs.Passed.wit_words-declared-source_map-Span.{Span}
use Rattle.wit_rules.specs.declared.fault.PackageRule.{PackageRule}
use Rattle.wit_rules.specs.declared.fault.PackageFault.{PackageFault}
use Rattle.wit_rules.specs.declared.fault.PackageFault.TheVariants.{OutOfMemory, Syntax, Broken}
use Rattle.wit_rules.specs.Breaks.{Breaks, IsKept, IsFaultOf, AnyBreaks}

-- a refusal for a part is one for the whole
pub widened : (part whole : Breaks) → ((rule : PackageRule) (at : Span) → part rule at → whole rule at) → (fault : PackageFault) → IsFaultOf part fault → IsFaultOf whole fault
widened part whole up OutOfMemory h = h
widened part whole up (Syntax f) h = absurd h
widened part whole up (Broken rule at) h = up rule at h

module _ {X : Type 0} (breaks_of : X → Breaks) (xs : List X) where
  -- those in front of a place break nothing
  abbrev pub AreKept : ℕ → Type 0
  AreKept i = (k : ℕ) (x : X) → k < i → slice_get xs k ≡ Some x → IsKept (breaks_of x)

  pub all_kept : AreKept (length xs) → IsKept (AnyBreaks breaks_of xs)
  all_kept kept rule at b = kept b.place b.one (slice_get_within xs b.place b.one b.there) b.there rule at b.breaks

  pub kept_more : (i : ℕ) (x : X) → slice_get xs i ≡ Some x → AreKept i → IsKept (breaks_of x) → AreKept (i + 1)
  kept_more i x there kept here k y less at =
      below_more (λ n. (z : X) → slice_get xs n ≡ Some z → IsKept (breaks_of z)) i (λ n l z e. kept n z l e) (λ z e. subst (λ (w : X). IsKept (breaks_of w)) (same_Some x z (sym there ∙ e)) here) k less y at

  pub one_breaks : (i : ℕ) (x : X) → slice_get xs i ≡ Some x → (fault : PackageFault) → IsFaultOf (breaks_of x) fault → IsFaultOf (AnyBreaks breaks_of xs) fault
  one_breaks i x there = widened (breaks_of x) (AnyBreaks breaks_of xs) (λ rule at b. record { place = i; one = x; there = there; breaks = b })

-- the same of values and of what they stand for
module _ {X Y : Type 0} (breaks_of : Y → Breaks) (view : X → Y) (xs : List X) where
  pub viewed_kept : IsKept (AnyBreaks (λ x. breaks_of (view x)) xs) → IsKept (AnyBreaks breaks_of (map view xs))
  viewed_kept kept rule at b = found (slice_get xs b.place) refl
    where
      found : (o : Option X) → slice_get xs b.place ≡ o → ⊥
      found None none = (let e : Some b.one ≡ None = sym b.there ∙ slice_get-map view xs b.place ∙ ap (option_map view) none in absurd cc)
      found (Some x) there =
          let same : view x ≡ b.one = same_Some (view x) b.one (sym (ap (option_map view) there) ∙ sym (slice_get-map view xs b.place) ∙ b.there) in
          kept rule at (record { place = b.place; one = x; there = there; breaks = subst (λ (y : Y). breaks_of y rule at) (sym same) b.breaks })

  pub viewed_breaks : (fault : PackageFault) → IsFaultOf (AnyBreaks (λ x. breaks_of (view x)) xs) fault → IsFaultOf (AnyBreaks breaks_of (map view xs)) fault
  viewed_breaks = widened (AnyBreaks (λ x. breaks_of (view x)) xs) (AnyBreaks breaks_of (map view xs)) (λ rule at b. record { place = b.place; one = view b.one; there = slice_get-map view xs b.place ∙ ap (option_map view) b.there; breaks = b.breaks })
