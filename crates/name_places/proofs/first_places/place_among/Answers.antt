use Rattle.std.proofs.Common.{◌≡◌, List, ℕ, ◌+◌, [], ◌∷◌, ◌++◌, map, length, Bor, Some, sym, ◌∙◌, ap, take, drop}
use Rattle.std.specs.Prelude.{get_or}
use Rattle.std.proofs.lemmas.List.{map_more, map-append, drop_more, take-append-drop, length-take-le, length-map}
use Rattle.name_places.specs.FirstPlaces.{place_of}
use Rattle.name_places.proofs.Places.{place_next, place_other}
use Rattle.name_places.proofs.first_places.place_among.Goals as goal

pub returns-then-eq : goal.returns-then-eq
returns-then-eq c =
    let now : Bor (List ℕ) → List ℕ = λ n. n.now in
    let before : List (Bor (List ℕ)) = take c.loop-place.place c.args.names.now in
    let n : Bor (List ℕ) = get_or c.args.names.now c.loop-place.place record { ref_ptr = (0, 0); now = [] } in
    let behind : List (Bor (List ℕ)) = drop (c.loop-place.place + 1) c.args.names.now in
    let all : before ++ n ∷ behind ≡ c.args.names.now = ap (λ (xs : List (Bor (List ℕ))). before ++ xs) (sym (drop_more c.args.names.now c.loop-place.place _ c.loop-place-test.true)) ∙ take-append-drop c.loop-place.place c.args.names.now in
    let many : length (map now before) ≡ c.loop-place.place = length-map before now ∙ length-take-le c.loop-place.place c.args.names.now c.loop-place.auto.place-end in
    ap (λ (k : ℕ). Some k) (sym many) ∙ sym (place_next c.args.name.now (map now before) n.now (map now behind) c.loop-place.invariant (sym c.eq.ensures ∙ c.if-eq.true)) ∙ ap (place_of c.args.name.now) (sym (map-append now before (n ∷ behind)) ∙ ap (map now) all)

pub loop-place-preserved : goal.loop-place-preserved
loop-place-preserved c =
    ap (place_of c.args.name.now) (map_more (λ (n : Bor (List ℕ)). n.now) c.args.names.now c.loop-place.place _ c.loop-place-test.true) ∙ place_other c.args.name.now _ _ c.loop-place.invariant (sym c.eq.ensures ∙ c.if-eq.false)
