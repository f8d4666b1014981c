use Rattle.std.proofs.Common.{◌≡◌, take, fold, flat_map}
use Rattle.std.specs.Hash as fed
use Rattle.wit_words.specs.NameKey.{folded}
use Rattle.wit_words.proofs.name_key.hash_folded.Given as goal

abbrev pub invariant-loop-byte : goal.invariant-loop-byte
invariant-loop-byte g l = l.state ≡ fold g.H.Hasher.write l.initial.state (flat_map fed.u8 (folded (take l.byte-index l.text)))
