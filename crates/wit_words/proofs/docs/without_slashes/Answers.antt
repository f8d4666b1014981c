use Rattle.wit_words.proofs.DocTexts.{trimmed_slashes}
use Rattle.wit_words.proofs.docs.without_slashes.Goals as goal

pub returns : goal.returns
returns c = trimmed_slashes c.args.text.now c.trim_start_matches.result.now c.trim_start_matches.ensures.matches
