-- Offsets of what is known.
use Rattle.std.proofs.Common.{◌+◌, ◌≡◌, ◌<◌, ◌≤◌, ℕ, Bool, true, ◌&&◌, List, [], ◌∷◌, ◌++◌, length, map, take, get_or, refl, sym, ap, subst, ◌∙◌, arith}
use Rattle.std.specs.Prelude.{nat_le}
use Rattle.std.specs.List.{All}
use Rattle.std.proofs.lemmas.Bool.{le-leb}
use Rattle.std.proofs.lemmas.List.{length-append, map_push, map_more}
use Rattle.std.proofs.lemmas.List.Folds.{list_all-append}
use Rattle.std.proofs.lemmas.List.Elements.{All-get_or}
use Rattle.component_sections.specs.declared.section.PlacedDefinition.{PlacedDefinition}
use Rattle.component_sections.specs.Component.{StandsIn}
use Rattle.known_definitions.specs.declared.definition.KnownDefinition.{KnownDefinition}
use Rattle.known_definitions.specs.Definition.{AreWithin}

lies_within : (total : List ℕ) (p : PlacedDefinition) → StandsIn total p → p.offset ≤ length total
lies_within total p (i, known, s) =
    omega (arith, s.place, ap length s.parts, length-append s.front (s.here ++ s.behind))

both : (a b : Bool) → a ≡ true → b ≡ true → (a && (b && true)) ≡ true
both a b e f = rw (e, f) refl

pub one_within : (total : List ℕ) (ps : List PlacedDefinition) (i : ℕ) (p d : PlacedDefinition) → i < length ps → p ≡ get_or ps i d → All (StandsIn total) ps → (found : List KnownDefinition) (added : KnownDefinition) → added.offset ≡ p.offset
    → AreWithin (length total) found → AreWithin (length total) (found ++ added ∷ [])
one_within total ps i p d there is h found added same so_far =
    let stands : StandsIn total p = subst (StandsIn total) (sym is) (All-get_or (StandsIn total) ps i d there h) in
    let low : added.offset ≤ length total = subst (λ n. n ≤ length total) (sym same) (lies_within total p stands) in
    list_all-append (λ (k : KnownDefinition). nat_le k.offset (length total)) found (added ∷ []) ∙ both _ _ so_far (le-leb added.offset (length total) low)

-- one more has the offset that was given
pub offsets_more : (ps : List PlacedDefinition) (i : ℕ) (p d : PlacedDefinition) → i < length ps → p ≡ get_or ps i d → (found : List KnownDefinition) (added : KnownDefinition) → added.offset ≡ p.offset
    → map (λ k. k.offset) found ≡ map (λ q. q.offset) (take i ps) → map (λ k. k.offset) (found ++ added ∷ []) ≡ map (λ q. q.offset) (take (i + 1) ps)
offsets_more ps i p d there is found added same so_far =
    map_push (λ (k : KnownDefinition). k.offset) found added ∙ ap (λ ns. ns ++ added.offset ∷ []) so_far
    ∙ ap (λ n. map (λ (q : PlacedDefinition). q.offset) (take i ps) ++ n ∷ []) (same ∙ ap (λ (q : PlacedDefinition). q.offset) is) ∙ sym (map_more (λ (q : PlacedDefinition). q.offset) ps i d there)
