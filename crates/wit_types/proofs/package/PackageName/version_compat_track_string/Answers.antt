use Rattle.std.proofs.Common.{sym, subst, List, ℕ, ◌∙◌}
use Rattle.semver.specs.Identifiers.{parts_of, version_text}
use Rattle.wit_types.specs.Track.{IsFront}
use Rattle.wit_types.proofs.Tracks.{track_front}
use Rattle.wit_types.proofs.package.PackageName.version_compat_track_string.Goals as goal

pub suffix_of-requires : goal.suffix_of-requires
suffix_of-requires c =
    let text = c.as_str.ensures.value ∙ c.in_ok-text.ensures.ok in
    let track = c.as_str-2.ensures.value ∙ c.in_ok-track.ensures in
    subst (λ (t : List ℕ). IsFront t c.as_str-2.result.now) (sym text)
    (subst (λ (f : List ℕ). IsFront (version_text c.args.version.now) f) (sym track) (track_front (parts_of c.args.version.now)))
