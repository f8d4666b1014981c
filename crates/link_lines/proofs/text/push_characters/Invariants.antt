use Rattle.std.proofs.Common.{◌≡◌, ◌++◌, string_bytes}
use Rattle.std.specs.List.{flat_map}
use Rattle.link_lines.specs.Texts.{escaped}
use Rattle.link_lines.proofs.text.push_characters.Given as goal

abbrev pub invariant-loop-character : goal.invariant-loop-character
invariant-loop-character l = string_bytes l.line ≡ string_bytes l.fn.line ++ flat_map escaped l.yielded
