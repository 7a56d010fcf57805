-- Quoted text as bytes.
use Rattle.std.specs.Prelude.{ℕ, List, [], ◌∷◌}
use Prim.Native.Char.{code}
use Prim.Native.String.{String}
use Prim.Native.String as string

-- a byte for each character
abbrev pub ascii : String → List ℕ
ascii string.[] = []
ascii (string.◌∷◌ character rest) = code character ∷ ascii rest
