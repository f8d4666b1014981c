use Rattle.wit_types.proofs.Tracks.{tracks_are_their_own}
use Rattle.wit_types.proofs.law.law_tracks_are_their_own.Goals as goal

pub returns : goal.returns
returns c = tracks_are_their_own
