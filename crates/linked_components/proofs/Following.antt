-- Tracks of what is imported, one import after the other.
use Rattle.std.proofs.Common.{◌≡◌, ℕ, zero, suc, ◌+◌, ◌<◌, List, [], ◌∷◌, ◌++◌, length, take, get_or, Some, refl, sym, ap, ◌∙◌, arith}
use Rattle.std.proofs.lemmas.List.{append-nil, take_more}
use Rattle.std.proofs.lemmas.List.Concat.{flat_map-append}
use Rattle.std.proofs.lemmas.Option.{slice_get_within, get_or_from_slice_get}
use Rattle.std.specs.List.{flat_map}
use Rattle.std.specs.Prelude.{slice_get}
use Rattle.wit_core_items.specs.Places.{Entry}
use Rattle.core_links.specs.Names.{Names}
use Rattle.linked_components.specs.Tracks.{track_of}

pub there : {X : Type 0} (xs : List X) (i : ℕ) → i < length xs → (x : X) × (slice_get xs i ≡ Some x)
there [] i within = absurd (omega arith)
there (x ∷ xs) zero within = (x, refl)
there (x ∷ xs) (suc i) within = there xs i (omega arith)

taken_more : (es : List Entry) (k : ℕ) (e : Entry) → slice_get es k ≡ Some e → take (k + 1) es ≡ take k es ++ e ∷ []
taken_more es k e at = take_more es k e (slice_get_within es k e at) ∙ ap (λ (x : Entry). take k es ++ x ∷ []) (get_or_from_slice_get es k e e at)

pub next_tracks : (n : Names) (es : List Entry) (k : ℕ) (old new : List (List ℕ)) → k < length es → ((e : Entry) → slice_get es k ≡ Some e → new ≡ old ++ track_of n e)
    → old ≡ flat_map (track_of n) (take k es) → new ≡ flat_map (track_of n) (take (k + 1) es)
next_tracks n es k old new within adds was =
    let e = there es k within in
    let split : flat_map (track_of n) (take (k + 1) es) ≡ flat_map (track_of n) (take k es) ++ track_of n e.0 =
    ap (flat_map (track_of n)) (taken_more es k e.0 e.1) ∙ flat_map-append (track_of n) (take k es) (e.0 ∷ []) ∙ ap (λ (l : List (List ℕ)). flat_map (track_of n) (take k es) ++ l) (append-nil (track_of n e.0)) in
    adds e.0 e.1 ∙ ap (λ (l : List (List ℕ)). l ++ track_of n e.0) was ∙ sym split
