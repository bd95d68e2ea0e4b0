-- The objects of what is told on standard error: of a fault with its hint, and of a hint without one. They are spelled as the crate `json`
-- prints tokens: no space, and of what stands in a string quotes, backslashes and octets below 32 are escaped.
use Rattle.std.specs.Prelude.{ℕ, List, [], ◌∷◌, ◌++◌, codes, Option, Some, None, option_copied, decimal}
use Rattle.json.specs.Token.{Token}
use Rattle.json.specs.Token as token
use Rattle.json.specs.Print.{print}
use Rattle.sr_json_lines.specs.declared.faults.ToldFault.{ToldFault}

-- a text, or null
abbrev pub text_or_null : Option (List ℕ) → Token
text_or_null None = token.null
text_or_null (Some text) = token.string text

-- a number, or null
abbrev pub number_or_null : Option ℕ → Token
number_or_null None = token.null
number_or_null (Some n) = token.number (decimal n)

-- a member of an object
abbrev pub member : List ℕ → Token → List Token
member name value = token.key name ∷ value ∷ []

-- the front of the object of a fault: what it is, and the capture or the line that it is of
abbrev pub place_tokens : ToldFault → List Token
place_tokens f = (token.begin_object ∷ []) ++ (member (codes "line") (token.string (codes "fault"))
    ++ (member (codes "capture") (text_or_null (option_copied f.capture)) ++ member (codes "number") (number_or_null f.number)))

-- the rest of it: the word for the fault, the octet where it is, and the hint
abbrev pub reason_tokens : ToldFault → List Token
reason_tokens f = member (codes "fault") (token.string f.word.now) ++ (member (codes "at") (number_or_null f.at)
    ++ (member (codes "hint") (text_or_null (option_copied f.hint)) ++ token.end_object ∷ []))

-- the object of a fault, in a line of its own
abbrev pub fault_object : ToldFault → List ℕ
fault_object f = print (place_tokens f ++ reason_tokens f) ++ 10 ∷ []

-- the object of a hint without a fault
abbrev pub hint_tokens : List ℕ → List Token
hint_tokens hint = (token.begin_object ∷ []) ++ (member (codes "line") (token.string (codes "hint"))
    ++ (member (codes "hint") (token.string hint) ++ token.end_object ∷ []))

abbrev pub hint_object : List ℕ → List ℕ
hint_object hint = print (hint_tokens hint) ++ 10 ∷ []
