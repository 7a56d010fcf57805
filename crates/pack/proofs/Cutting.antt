-- A line taken together from parts of the input.
use Rattle.std.proofs.Common.{◌≡◌, ℕ, ◌+◌, ◌-◌, ◌<◌, ◌≤◌, List, [], ◌∷◌, ◌++◌, length, take, sym, refl, ap, ◌∙◌, subst, append_assoc, arith, length-append, Some, None}
use Rattle.buffer.specs.Put.{Put}
use Rattle.output.proofs.Held.{put_before}
use Rattle.pattern.specs.Characters.{Each, none, Stops, at_other}
use Rattle.pattern.proofs.Spans.{each_append, each_front, each_second, span_unique}
use Rattle.pack.specs.Cut.{line_feed, NoFeed, most_bytes, Lines, no_line, a_line}
use Rattle.pack.specs.Held.{Holds, fits, too_long}
use Rattle.pack.specs.declared.cut.Line.{Line}

-- a line that is too long stays so
pub holds_longer : {l : Line} {line : List ℕ} (bytes : List ℕ) → l.held ≡ None → Holds l line → Holds l (line ++ bytes)
holds_longer bytes over (fits held few stands) = cc (held, over)
holds_longer {line = line} bytes over (too_long held many) =
    too_long held (omega (arith, many, length-append line bytes))

-- or becomes so
pub holds_over : {l l' : Line} {line : List ℕ} {count : ℕ} (bytes : List ℕ) → l.held ≡ Some count → l'.held ≡ None
    → most_bytes - count < length bytes → Holds l line → Holds l' (line ++ bytes)
holds_over {line = line} {count = count} bytes is after over (fits held few stands) =
    let same : count ≡ length line = cc (is, held) in
    too_long after (omega (arith, same, over, length-append line bytes))
holds_over bytes is after over (too_long held many) = cc (is, held)

-- bytes that fit stand behind those of the line so far
pub holds_more : {l l' : Line} {line : List ℕ} {count next : ℕ} (bytes : List ℕ) → l.held ≡ Some count
    → l'.held ≡ Some (count + length bytes) → Put l.bytes count bytes next l'.bytes → length l.bytes ≡ most_bytes
    → length bytes ≤ most_bytes - count → Holds l line → Holds l' (line ++ bytes)
holds_more {l} {l'} {line} {count} {next} bytes is after put room within (fits held few stands) =
    let same : count ≡ length line = cc (is, held) in
    let many : count + length bytes ≡ length (line ++ bytes) = omega (arith, same, length-append line bytes) in
    let front : take (length (line ++ bytes)) l'.bytes ≡ line ++ bytes =
    ap (λ (n : ℕ). take n l'.bytes) (sym many ∙ sym put.place) ∙ put_before put (omega (arith, put.place))
    ∙ ap (λ (n : ℕ). take n l.bytes ++ bytes) same ∙ ap (λ (l : List ℕ). l ++ bytes) stands in
    fits (after ∙ ap Some many) (omega (arith, many, same, few, within)) front
holds_more bytes is after put room within (too_long held many) = cc (is, held)

-- a line begins with no bytes
pub begins_empty : {l : Line} → l.held ≡ Some 0 → Holds l []
begins_empty held = fits held (omega arith) refl

-- bytes behind the last line belong to it ..
pub lines_longer : {bytes part last : List ℕ} {lines : List (List ℕ)} → Lines bytes lines last → Each NoFeed part
    → Lines (bytes ++ part) lines (last ++ part)
lines_longer (no_line each) more = no_line (each_append each more)
lines_longer {part = part} (a_line {line} {rest} {last} {lines} each tail) more =
    subst (λ l. Lines l (line ∷ lines) (last ++ part)) (sym (append_assoc line (line_feed ∷ rest) part))
    (a_line each (lines_longer tail more))

-- .. until a line feed ends it
pub lines_next : {bytes part last : List ℕ} {lines : List (List ℕ)} → Lines bytes lines last → Each NoFeed part
    → Lines (bytes ++ (part ++ (line_feed ∷ []))) (lines ++ ((last ++ part) ∷ [])) []
lines_next {part = part} (no_line {bytes} each) more =
    subst (λ l. Lines l ((bytes ++ part) ∷ []) []) (append_assoc bytes part (line_feed ∷ []))
    (a_line (each_append each more) (no_line none))
lines_next {part = part} (a_line {line} {rest} {last} {lines} each tail) more =
    subst (λ l. Lines l (line ∷ (lines ++ ((last ++ part) ∷ []))) [])
    (sym (append_assoc line (line_feed ∷ rest) (part ++ (line_feed ∷ []))))
    (a_line each (lines_next tail more))

-- Bytes are cut into lines in one way only.
lines_same : {bytes bytes' last last' : List ℕ} {lines lines' : List (List ℕ)} → Lines bytes lines last
    → Lines bytes' lines' last' → bytes ≡ bytes' → (lines ≡ lines') × (last ≡ last')
lines_same (no_line each) (no_line each') e = (refl, e)
lines_same (no_line each) (a_line {line} {rest} each' tail) e =
    absurd (each_front (each_second line (line_feed ∷ rest) (subst (Each NoFeed) e each)) refl)
lines_same (a_line {line} {rest} each tail) (no_line each') e =
    absurd (each_front (each_second line (line_feed ∷ rest) (subst (Each NoFeed) (sym e) each')) refl)
lines_same (a_line {rest = rest} each tail) (a_line {rest = rest'} each' tail') e =
    let feed : (r : List ℕ) → Stops NoFeed (line_feed ∷ r) = λ r. at_other (λ other. other refl) in
    let same = span_unique each each' (feed rest) (feed rest') e in
    let further = lines_same tail tail' (cc same.1) in
    (cc (same.0, further.0), further.1)

pub lines_once : {bytes last last' : List ℕ} {lines lines' : List (List ℕ)} → Lines bytes lines last
    → Lines bytes lines' last' → (lines ≡ lines') × (last ≡ last')
lines_once l l' = lines_same l l' refl
