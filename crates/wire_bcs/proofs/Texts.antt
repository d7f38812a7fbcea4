-- std's texts are those that a text item may hold.
use Rattle.std.proofs.lemmas.Str.{is_utf8-from_IsUtf8, IsUtf8-from_is_utf8}

pub ruleset texts = (is_utf8-from_IsUtf8, IsUtf8-from_is_utf8)
