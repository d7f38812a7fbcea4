-- The bytes of one part of a line: a text, or a number in decimal digits.
use Rattle.std.specs.Prelude.{ℕ, List, decimal}
use Rattle.schedule_make.specs.declared.parts.Part.{Part}
use Rattle.schedule_make.specs.declared.parts.Part.TheVariants as part

abbrev pub part_text : Part → List ℕ
part_text (part.Text text) = text.now
part_text (part.Number n) = decimal n
