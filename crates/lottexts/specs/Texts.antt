-- What a text is: the bytes that it has, and not the places that are left. Definitions only.
use Rattle.std.specs.Prelude.{ℕ, List, take}
use Rattle.lottexts.specs.declared.text.Text.{Text}

abbrev pub text_of : {room : ℕ} → Text room → List ℕ
text_of t = take t.len t.bytes
