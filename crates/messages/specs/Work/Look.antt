-- The message of a content, found by tests from the top of the table. The laws show that the content is that
-- message's.
-- Assumes nothing.
use Rattle.std.specs.Prelude.{Bool, cond, ◌&&◌, ◌||◌, List, ◌≡◌, ℕ, ◌-◌, eqb, leb, ltb, ℤ, pos, negsuc, length, get_or}
use Rattle.std.specs.Prelude.{drop}
use Rattle.digits.specs.Paper.Ascii.{ascii}
use Rattle.digits.specs.Paper.Bytes.{part}
use Rattle.digits.specs.Paper.LowFirst.{low_value}
use Rattle.layouts.specs.Paper.Chars.{one_of}
use Rattle.layouts.specs.Paper.Made.{Wire}
use Rattle.layouts.specs.Work.Heads.{starts}
use Rattle.messages.specs.Paper.Content.{Content}
use Rattle.messages.specs.Paper.Content as content
use Rattle.messages.specs.Paper.Message.{Message, read, set, answer, press, tail, link, command, climate}
use Rattle.messages.specs.Paper.Message.{state, break, end, text, response, ask, reply, put, done, nibe}
use Rattle.messages.specs.Paper.Says.{of_homiq}
use Rattle.messages.specs.Paper.Table.{u16_at, text_ids}
use Rattle.messages.specs.Work.Homiq.{which_of}
use Rattle.messages.specs.declared.nibe.Valued.{Valued}

-- ---- Nikobus

unfoldable pub is_read : List ℕ → Bool
is_read p = eqb (length p) 3 && (eqb (get_or p 0 0) 0x12 || eqb (get_or p 0 0) 0x17)

unfoldable pub is_set : List ℕ → Bool
is_set p = eqb (length p) 10 && (eqb (get_or p 9 0) 0xFF && (eqb (get_or p 0 0) 0x15 || eqb (get_or p 0 0) 0x16))

-- the group of a code; `first` is the code of group 1
abbrev pub group_of : ℕ → ℕ → ℕ
group_of first code = cond (eqb code first) 1 2

unfoldable pub look_link : List ℕ → Message
look_link p =
    cond (is_read p) (read (group_of 0x12 (get_or p 0 0)) (u16_at 1 p))
    (cond (is_set p) (set (group_of 0x15 (get_or p 0 0)) (u16_at 1 p) (part 3 9 p))
    (cond (eqb (length p) 9) (answer (u16_at 0 p) (get_or p 2 0) (part 3 9 p))
    (link p)))

-- ---- Nest responses

-- the number of 16 bits at a place, two's complement
abbrev pub of_twos : ℕ → ℤ
of_twos n = cond (ltb n 32768) (pos n) (negsuc (65535 - n))

abbrev pub signed_at : ℕ → List ℕ → ℤ
signed_at i p = of_twos (u16_at i p)

unfoldable pub is_climate : ℕ → List ℕ → Bool
is_climate i p = eqb i 0x0002 && eqb (length p) 4

unfoldable pub is_state : ℕ → List ℕ → Bool
is_state i p = eqb i 0x000B && leb 16 (length p)

unfoldable pub is_break : ℕ → List ℕ → Bool
is_break i p = eqb i 0x0001 && (eqb (length p) 3 && starts (ascii "BRK") p)

unfoldable pub is_end : ℕ → List ℕ → Bool
is_end i p = eqb i 0x002F && eqb (length p) 0

unfoldable pub look_response : ℕ → List ℕ → Message
look_response i p =
    cond (is_climate i p) (climate (signed_at 0 p) (u16_at 2 p))
    (cond (is_state i p) (state p)
    (cond (is_break i p) break
    (cond (is_end i p) end
    (cond (one_of text_ids i) (text i p)
    (response i p)))))

-- ---- Nibe

unfoldable pub is_ask : ℕ → List ℕ → Bool
is_ask c d = eqb c 0x69 && eqb (length d) 2

unfoldable pub is_valued : ℕ → ℕ → List ℕ → Bool
is_valued want c d = eqb c want && (eqb (length d) 3 || (eqb (length d) 4 || eqb (length d) 6))

unfoldable pub is_done : ℕ → List ℕ → Bool
is_done c d = eqb c 0x6C && (eqb (length d) 1 && leb (get_or d 0 0) 1)

unfoldable pub look_nibe : ℕ → List ℕ → Message
look_nibe c d =
    cond (is_ask c d) (ask (u16_at 0 d))
    (cond (is_valued 0x6A c d) (reply (u16_at 0 d) (length d - 2) (low_value (drop 2 d)))
    (cond (is_valued 0x6B c d) (put (u16_at 0 d) (length d - 2) (low_value (drop 2 d)))
    (cond (is_done c d) (done (eqb (get_or d 0 0) 1))
    (nibe c d))))

-- the register and the value that data are
pub record ValuedIn (d : List ℕ) (v : Valued) : Type 0 where
  pub register : v.register ≡ u16_at 0 d
  pub width : v.width ≡ length d - 2
  pub value : v.value ≡ low_value (drop 2 d)

-- ---- Homiq

abbrev pub look_homiq : Wire → Message
look_homiq w = of_homiq (which_of w.cmd w.val) w

-- ---- all of them

unfoldable pub look : Content → Message
look (content.link p) = look_link p
look (content.press d) = press d
look content.tail = tail
look (content.command i p) = command i p
look (content.response i p) = look_response i p
look (content.nibe c d) = look_nibe c d
look (content.homiq w) = look_homiq w
