use Rattle.std.proofs.Common.{◌≡◌, true, refl}
use Rattle.clap.specs.Words.{is_simple, is_simple_and_free}
use Rattle.command_line.specs.Line.{line_app}

-- the command uses none of the settings that change how words are read
pub is_simple-line_app : is_simple line_app ≡ true
unfolding line_app
is_simple-line_app = refl

-- nor has an argument a rule on another
pub is_simple_and_free-line_app : is_simple_and_free line_app ≡ true
unfolding line_app
is_simple_and_free-line_app = refl
