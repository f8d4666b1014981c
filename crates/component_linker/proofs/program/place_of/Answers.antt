use Rattle.std.proofs.Common.{◌≡◌, Some, string_bytes, refl, sym, subst, ◌∙◌}
use Rattle.wit_words.specs.Sources.{IsLocation}
use Rattle.component_session.specs.Pushes.{Resolved}
use Rattle.component_linker.specs.Stops.{IsPlaceAt}
use Rattle.component_linker.proofs.program.place_of.Goals as goal

pub returns-in_ok-place-in-Some : goal.returns-in_ok-place-in-Some
returns-in_ok-place-in-Some c =
    let place = c.in_ok-place-in-Some.place in
    subst (λ o. IsPlaceAt c.args.session.now.resolved.texts o (Some place)) (sym c.in-Some.is ∙ c.span.ensures)
    (place, refl, subst (λ (r : Resolved). IsLocation r.texts c.in-Some.span (string_bytes place)) c.resolve.ensures c.in_ok-place-in-Some.ensures)
