use Rattle.std.proofs.Common.{◌≡◌, string_bytes, take}
use Rattle.link_lines.specs.Texts.{lines_text}
use Rattle.link_lines.proofs.text.lines_of.Given as goal

abbrev pub invariant-loop-link : goal.invariant-loop-link
invariant-loop-link l = string_bytes l.lines ≡ lines_text (take l.link-index l.links)
