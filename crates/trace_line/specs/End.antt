-- What the printer writes where the input ends (X6, X7).
use Rattle.std.specs.Prelude.{ℕ, zero, suc, List, []}
use Rattle.reply.specs.Text.{ascii}

-- "A record cut short, a bad number, a frame length above 65,536 or a kind above 4 prints `cut` and stops; an end
-- between records only stops": by how many bytes are left behind the last whole record
unfoldable pub end_text : ℕ → List ℕ
end_text zero = []
end_text (suc n) = ascii "cut\n"
