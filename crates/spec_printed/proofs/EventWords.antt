-- The words of a printed event, and that they are read as it.
use Rattle.std.proofs.Common.{◌≡◌, ℕ, ◌≤◌, Bool, true, false, not, eqb, leb, ◌&&◌, List, [], ◌∷◌, ◌++◌, length, Some, codes, decimal, refl, sym, ap, ◌∙◌, arith, append_assoc, length-append}
use Rattle.std.specs.Char.{is_ascii_digit}
use Rattle.std.specs.List.{AllByRecursion, join_with_byte, list_all}
use Rattle.std.specs.Option.{unwrap_or}
use Rattle.std.proofs.lemmas.Bool.{and_from, and_parts, leb-true, ne_eqb}
use Rattle.std.proofs.lemmas.Fmt.{digits_decimal, digits_value-decimal}
use Rattle.hex.specs.Hex.{IsBytes, encode_lower}
use Rattle.spec_core.specs.declared.act.Act.{Act}
use Rattle.spec_core.specs.declared.act.Act.TheVariants as acts
use Rattle.spec_core.specs.declared.event.CoreEvent.{CoreEvent}
use Rattle.spec_core.specs.declared.reply.Reply.{Reply}
use Rattle.spec_core.specs.declared.reply.Reply.TheVariants as replies
use Rattle.spec_script.proofs.Numbers.{AreDigits, numerals}
use Rattle.spec_script.proofs.WordsAgain.{encoded_pass, hex_again}
use Rattle.spec_session.specs.Replies.{act_text, reply_text}
use Rattle.spec_session.specs.Text.{event_text}
use Rattle.spec_tree.specs.declared.Digest.{Digest}
use Rattle.spec_printed.specs.Printed.{IsAct, IsEvent, IsReply, IsShort}
use Rattle.spec_printed.specs.Reading.{Words, digest_in, number_in, read_act, read_reply, read_words, event_from, event_of}

-- ---- words

abbrev pub act_words : Act → Words
act_words (acts.Begin root size) = codes "begin" ∷ encode_lower root.0 ∷ decimal size ∷ []
act_words (acts.Admit root) = codes "admit" ∷ encode_lower root.0 ∷ []
act_words (acts.Put index) = codes "put" ∷ decimal index ∷ []
act_words (acts.Settle root) = codes "settle" ∷ encode_lower root.0 ∷ []
act_words (acts.Retire root) = codes "retire" ∷ encode_lower root.0 ∷ []
act_words (acts.Open slot root) = codes "open" ∷ decimal slot ∷ encode_lower root.0 ∷ []
act_words (acts.Fetch slot window) = codes "fetch" ∷ decimal slot ∷ decimal window ∷ []
act_words (acts.Read slot off len) = codes "read" ∷ decimal slot ∷ decimal off ∷ decimal len ∷ []
act_words (acts.Scan slot) = codes "scan" ∷ decimal slot ∷ []
act_words (acts.Close slot) = codes "close" ∷ decimal slot ∷ []
act_words (acts.Unlink root) = codes "unlink" ∷ encode_lower root.0 ∷ []
act_words acts.Sync = codes "sync" ∷ []
act_words acts.List = codes "list" ∷ []
act_words acts.Unmount = codes "unmount" ∷ []

abbrev pub reply_words : Reply → Words
reply_words replies.Granted = codes "granted" ∷ []
reply_words replies.Admitted = codes "admitted" ∷ []
reply_words replies.Written = codes "written" ∷ []
reply_words replies.Published = codes "published" ∷ []
reply_words replies.Retired = codes "retired" ∷ []
reply_words (replies.Opened size) = codes "opened" ∷ decimal size ∷ []
reply_words replies.Fetched = codes "fetched" ∷ []
reply_words replies.Reading = codes "reading" ∷ []
reply_words replies.Closed = codes "closed" ∷ []
reply_words replies.Unlinked = codes "unlinked" ∷ []
reply_words replies.Synced = codes "synced" ∷ []
reply_words (replies.Listed count) = decimal count ∷ []
reply_words replies.Unmounted = codes "unmounted" ∷ []
reply_words (replies.Stopped fault) = codes "stopped" ∷ decimal fault ∷ []
reply_words replies.Exists = codes "exists" ∷ []
reply_words (replies.Leaving handles) = codes "leaving" ∷ decimal handles ∷ []
reply_words replies.InFlight = codes "in-flight" ∷ []
reply_words (replies.NoSpace need room) = codes "no-space" ∷ decimal need ∷ decimal room ∷ []
reply_words (replies.NoNodes need free) = codes "no-nodes" ∷ decimal need ∷ decimal free ∷ []
reply_words replies.NumberEnd = codes "number-end" ∷ []
reply_words (replies.DeviceFault fault) = codes "device-fault" ∷ decimal fault ∷ []
reply_words (replies.ReadFault fault) = codes "read-fault" ∷ decimal fault ∷ []
reply_words replies.NotFound = codes "not-found" ∷ []
reply_words replies.SlotTaken = codes "slot-taken" ∷ []
reply_words replies.BadSlot = codes "bad-slot" ∷ []

-- the word of the calls
abbrev pub calls_word : ℕ → List ℕ
calls_word calls = 64 ∷ decimal calls

-- the words of an event behind its line
abbrev pub deed_words : CoreEvent → Words
deed_words e = act_words e.act ++ (reply_words e.reply ++ calls_word e.calls ∷ [])

-- the words of an event with this number
abbrev pub event_words : ℕ → CoreEvent → Words
event_words number e = decimal number ∷ decimal e.who.session ∷ decimal e.who.line ∷ deed_words e

-- ---- the text is the words

-- what stands before a word, and what stands behind it
join_more : (xs : Words) (y : List ℕ) (ys : Words) → 1 ≤ length xs → join_with_byte 32 (xs ++ y ∷ ys) ≡ join_with_byte 32 xs ++ 32 ∷ join_with_byte 32 (y ∷ ys)
join_more [] y ys some = absurd (omega arith)
join_more (x ∷ []) y ys some = refl
join_more (x ∷ z ∷ xs) y ys some =
    ap (λ (t : List ℕ). x ++ 32 ∷ t) (join_more (z ∷ xs) y ys (omega arith)) ∙ sym (append_assoc x (32 ∷ join_with_byte 32 (z ∷ xs)) (32 ∷ join_with_byte 32 (y ∷ ys)))

-- a word and two values, as the text puts them
two_values : (w a b : List ℕ) → w ++ 32 ∷ (a ++ 32 ∷ b) ≡ (w ++ codes " " ++ a) ++ codes " " ++ b
two_values w a b = simp append_assoc

-- and three values
three_values : (w a b c : List ℕ) → w ++ 32 ∷ (a ++ 32 ∷ (b ++ 32 ∷ c)) ≡ ((w ++ codes " " ++ a) ++ codes " " ++ b) ++ codes " " ++ c
three_values w a b c = simp append_assoc

act_joined : (a : Act) → join_with_byte 32 (act_words a) ≡ act_text a
act_joined (acts.Begin root size) = two_values (codes "begin") (encode_lower root.0) (decimal size)
act_joined (acts.Admit root) = refl
act_joined (acts.Put index) = refl
act_joined (acts.Settle root) = refl
act_joined (acts.Retire root) = refl
act_joined (acts.Open slot root) = two_values (codes "open") (decimal slot) (encode_lower root.0)
act_joined (acts.Fetch slot window) = two_values (codes "fetch") (decimal slot) (decimal window)
act_joined (acts.Read slot off len) = three_values (codes "read") (decimal slot) (decimal off) (decimal len)
act_joined (acts.Scan slot) = refl
act_joined (acts.Close slot) = refl
act_joined (acts.Unlink root) = refl
act_joined acts.Sync = refl
act_joined acts.List = refl
act_joined acts.Unmount = refl

reply_joined : (r : Reply) → join_with_byte 32 (reply_words r) ≡ reply_text r
reply_joined replies.Granted = refl
reply_joined replies.Admitted = refl
reply_joined replies.Written = refl
reply_joined replies.Published = refl
reply_joined replies.Retired = refl
reply_joined (replies.Opened size) = refl
reply_joined replies.Fetched = refl
reply_joined replies.Reading = refl
reply_joined replies.Closed = refl
reply_joined replies.Unlinked = refl
reply_joined replies.Synced = refl
reply_joined (replies.Listed count) = refl
reply_joined replies.Unmounted = refl
reply_joined (replies.Stopped fault) = refl
reply_joined replies.Exists = refl
reply_joined (replies.Leaving handles) = refl
reply_joined replies.InFlight = refl
reply_joined (replies.NoSpace need room) = two_values (codes "no-space") (decimal need) (decimal room)
reply_joined (replies.NoNodes need free) = two_values (codes "no-nodes") (decimal need) (decimal free)
reply_joined replies.NumberEnd = refl
reply_joined (replies.DeviceFault fault) = refl
reply_joined (replies.ReadFault fault) = refl
reply_joined replies.NotFound = refl
reply_joined replies.SlotTaken = refl
reply_joined replies.BadSlot = refl

some_act : (a : Act) → 1 ≤ length (act_words a)
some_act (acts.Begin root size) = omega arith
some_act (acts.Admit root) = omega arith
some_act (acts.Put index) = omega arith
some_act (acts.Settle root) = omega arith
some_act (acts.Retire root) = omega arith
some_act (acts.Open slot root) = omega arith
some_act (acts.Fetch slot window) = omega arith
some_act (acts.Read slot off len) = omega arith
some_act (acts.Scan slot) = omega arith
some_act (acts.Close slot) = omega arith
some_act (acts.Unlink root) = omega arith
some_act acts.Sync = omega arith
some_act acts.List = omega arith
some_act acts.Unmount = omega arith

some_reply : (r : Reply) → 1 ≤ length (reply_words r)
some_reply replies.Granted = omega arith
some_reply replies.Admitted = omega arith
some_reply replies.Written = omega arith
some_reply replies.Published = omega arith
some_reply replies.Retired = omega arith
some_reply (replies.Opened size) = omega arith
some_reply replies.Fetched = omega arith
some_reply replies.Reading = omega arith
some_reply replies.Closed = omega arith
some_reply replies.Unlinked = omega arith
some_reply replies.Synced = omega arith
some_reply (replies.Listed count) = omega arith
some_reply replies.Unmounted = omega arith
some_reply (replies.Stopped fault) = omega arith
some_reply replies.Exists = omega arith
some_reply (replies.Leaving handles) = omega arith
some_reply replies.InFlight = omega arith
some_reply (replies.NoSpace need room) = omega arith
some_reply (replies.NoNodes need free) = omega arith
some_reply replies.NumberEnd = omega arith
some_reply (replies.DeviceFault fault) = omega arith
some_reply (replies.ReadFault fault) = omega arith
some_reply replies.NotFound = omega arith
some_reply replies.SlotTaken = omega arith
some_reply replies.BadSlot = omega arith

-- words behind words that are some
join_behind : (xs ys : Words) → 1 ≤ length xs → 1 ≤ length ys → join_with_byte 32 (xs ++ ys) ≡ join_with_byte 32 xs ++ 32 ∷ join_with_byte 32 ys
join_behind xs [] some more = absurd (omega arith)
join_behind xs (y ∷ ys) some more = join_more xs y ys some

join_cons : (x : List ℕ) (ys : Words) → 1 ≤ length ys → join_with_byte 32 (x ∷ ys) ≡ x ++ 32 ∷ join_with_byte 32 ys
join_cons x [] more = absurd (omega arith)
join_cons x (y ∷ ys) more = refl

-- the words of a line as the text puts them
line_joined : (n s l a r c : List ℕ) → (n ++ codes " " ++ s ++ codes " " ++ l ++ codes " " ++ a) ++ (codes " " ++ r ++ codes " @" ++ c ++ codes "\n") ≡ (n ++ 32 ∷ (s ++ 32 ∷ (l ++ 32 ∷ (a ++ 32 ∷ (r ++ 32 ∷ 64 ∷ c))))) ++ codes "\n"
line_joined n s l a r c = simp append_assoc

-- the line of an event, without its newline
pub event_joined : (number : ℕ) (e : CoreEvent) → event_text number e ≡ join_with_byte 32 (event_words number e) ++ codes "\n"
event_joined number e =
    let replied : Words = reply_words e.reply ++ calls_word e.calls ∷ [] in
    let calls : List ℕ = calls_word e.calls in
    let behind : join_with_byte 32 replied ≡ reply_text e.reply ++ 32 ∷ calls =
    join_more (reply_words e.reply) calls [] (some_reply e.reply) ∙ ap (λ (t : List ℕ). t ++ 32 ∷ calls) (reply_joined e.reply) in
    let some : 1 ≤ length replied = omega (arith, length-append (reply_words e.reply) (calls ∷ [])) in
    let deed : join_with_byte 32 (deed_words e) ≡ act_text e.act ++ 32 ∷ (reply_text e.reply ++ 32 ∷ calls) =
    join_behind (act_words e.act) replied (some_act e.act) some ∙ ap (λ (t : List ℕ). t ++ 32 ∷ join_with_byte 32 replied) (act_joined e.act) ∙ ap (λ (t : List ℕ). act_text e.act ++ 32 ∷ t) behind in
    let deeds : 1 ≤ length (deed_words e) = omega (arith, some, length-append (act_words e.act) replied) in
    let whole : join_with_byte 32 (event_words number e) ≡ decimal number ++ 32 ∷ (decimal e.who.session ++ 32 ∷ (decimal e.who.line ++ 32 ∷ (act_text e.act ++ 32 ∷ (reply_text e.reply ++ 32 ∷ calls)))) =
    ap (λ (t : List ℕ). decimal number ++ 32 ∷ (decimal e.who.session ++ 32 ∷ t)) (join_cons (decimal e.who.line) (deed_words e) deeds ∙ ap (λ (t : List ℕ). decimal e.who.line ++ 32 ∷ t) deed) in
    line_joined (decimal number) (decimal e.who.session) (decimal e.who.line) (act_text e.act) (reply_text e.reply) (decimal e.calls)
    ∙ ap (λ (t : List ℕ). t ++ codes "\n") (sym whole)

-- ---- the words are read

number_again : (n : ℕ) → IsShort n → number_in (decimal n) ≡ n
number_again n short = digits_value-decimal numerals n short

digest_again : (d : Digest) → IsBytes d.0 → digest_in (encode_lower d.0) ≡ d
digest_again d bytes = ap (λ o. record { 0 = unwrap_or o [] }) (hex_again d.0 bytes)

pub act_again : (a : Act) (rest : Words) → IsAct a → read_act (act_words a ++ rest) ≡ Some (a, rest)
act_again (acts.Begin root size) rest is = rw (digest_again root is.0, number_again size is.1) refl
act_again (acts.Admit root) rest is = rw (digest_again root is) refl
act_again (acts.Put index) rest is = rw (number_again index is) refl
act_again (acts.Settle root) rest is = rw (digest_again root is) refl
act_again (acts.Retire root) rest is = rw (digest_again root is) refl
act_again (acts.Open slot root) rest is = rw (number_again slot is.0, digest_again root is.1) refl
act_again (acts.Fetch slot window) rest is = rw (number_again slot is.0, number_again window is.1) refl
act_again (acts.Read slot off len) rest is = rw (number_again slot is.0, number_again off is.1, number_again len is.2) refl
act_again (acts.Scan slot) rest is = rw (number_again slot is) refl
act_again (acts.Close slot) rest is = rw (number_again slot is) refl
act_again (acts.Unlink root) rest is = rw (digest_again root is) refl
act_again acts.Sync rest is = refl
act_again acts.List rest is = refl
act_again acts.Unmount rest is = refl

pub reply_again : (r : Reply) (rest : Words) → IsReply r → read_reply (reply_words r ++ rest) ≡ Some (r, rest)
reply_again replies.Granted rest is = refl
reply_again replies.Admitted rest is = refl
reply_again replies.Written rest is = refl
reply_again replies.Published rest is = refl
reply_again replies.Retired rest is = refl
reply_again (replies.Opened size) rest is = rw (number_again size is) refl
reply_again replies.Fetched rest is = refl
reply_again replies.Reading rest is = refl
reply_again replies.Closed rest is = refl
reply_again replies.Unlinked rest is = refl
reply_again replies.Synced rest is = refl
reply_again (replies.Listed count) rest is = rw (digits_decimal numerals count is, number_again count is) refl
reply_again replies.Unmounted rest is = refl
reply_again (replies.Stopped fault) rest is = rw (number_again fault is) refl
reply_again replies.Exists rest is = refl
reply_again (replies.Leaving handles) rest is = rw (number_again handles is) refl
reply_again replies.InFlight rest is = refl
reply_again (replies.NoSpace need room) rest is = rw (number_again need is.0, number_again room is.1) refl
reply_again (replies.NoNodes need free) rest is = rw (number_again need is.0, number_again free is.1) refl
reply_again replies.NumberEnd rest is = refl
reply_again (replies.DeviceFault fault) rest is = rw (number_again fault is) refl
reply_again (replies.ReadFault fault) rest is = rw (number_again fault is) refl
reply_again replies.NotFound rest is = refl
reply_again replies.SlotTaken rest is = refl
reply_again replies.BadSlot rest is = refl

event_rest : (e : CoreEvent) (session line : List ℕ) → IsEvent e → event_from session line (read_act (deed_words e)) ≡ Some (record { who = record { session = number_in session; line = number_in line }; act = e.act; reply = e.reply; calls = number_in (decimal e.calls) })
event_rest e session line is =
    ap (event_from session line) (act_again e.act (reply_words e.reply ++ calls_word e.calls ∷ []) is.act)
    ∙ ap (event_of session line e.act) (reply_again e.reply (calls_word e.calls ∷ []) is.reply)

pub event_again : (number : ℕ) (e : CoreEvent) → IsEvent e → read_words (event_words number e) ≡ Some e
event_again number e is =
    event_rest e (decimal e.who.session) (decimal e.who.line) is
    ∙ rw (number_again e.who.session is.session, number_again e.who.line is.line, number_again e.calls is.calls) refl

-- ---- no word has a separator

-- a byte that parts neither words nor lines
abbrev pub is_plain : ℕ → Bool
is_plain byte = not (eqb byte 32) && not (eqb byte 10)

abbrev pub IsPlain : List ℕ → Type 0
IsPlain word = list_all is_plain word ≡ true

digit_plain : (b : ℕ) → is_ascii_digit b ≡ true → is_plain b ≡ true
digit_plain b is =
    let low : 48 ≤ b = leb-true 48 b (and_parts (leb 48 b) (leb b 57) is).0 in
    let no_space : eqb b 32 ≡ false = ne_eqb b 32 (λ (e : b ≡ 32). omega (arith, low, e)) in
    let no_newline : eqb b 10 ≡ false = ne_eqb b 10 (λ (e : b ≡ 10). omega (arith, low, e)) in
    and_from (not (eqb b 32)) (not (eqb b 10)) (ap not no_space) (ap not no_newline)

digits_plain : (ds : List ℕ) → AreDigits ds → IsPlain ds
digits_plain [] are = refl
digits_plain (d ∷ ds) are =
    let h = and_parts (is_ascii_digit d) (list_all is_ascii_digit ds) are in
    and_from (is_plain d) (list_all is_plain ds) (digit_plain d h.0) (digits_plain ds h.1)

number_plain : (n : ℕ) → IsShort n → IsPlain (decimal n)
number_plain n short = digits_plain (decimal n) (digits_decimal numerals n short)

digest_plain : (d : Digest) → IsBytes d.0 → IsPlain (encode_lower d.0)
digest_plain d bytes = encoded_pass is_plain d.0 refl bytes

pub act_plain : (a : Act) → IsAct a → AllByRecursion IsPlain (act_words a)
act_plain (acts.Begin root size) is = (refl, (digest_plain root is.0, (number_plain size is.1, tt)))
act_plain (acts.Admit root) is = (refl, (digest_plain root is, tt))
act_plain (acts.Put index) is = (refl, (number_plain index is, tt))
act_plain (acts.Settle root) is = (refl, (digest_plain root is, tt))
act_plain (acts.Retire root) is = (refl, (digest_plain root is, tt))
act_plain (acts.Open slot root) is = (refl, (number_plain slot is.0, (digest_plain root is.1, tt)))
act_plain (acts.Fetch slot window) is = (refl, (number_plain slot is.0, (number_plain window is.1, tt)))
act_plain (acts.Read slot off len) is = (refl, (number_plain slot is.0, (number_plain off is.1, (number_plain len is.2, tt))))
act_plain (acts.Scan slot) is = (refl, (number_plain slot is, tt))
act_plain (acts.Close slot) is = (refl, (number_plain slot is, tt))
act_plain (acts.Unlink root) is = (refl, (digest_plain root is, tt))
act_plain acts.Sync is = (refl, tt)
act_plain acts.List is = (refl, tt)
act_plain acts.Unmount is = (refl, tt)

pub reply_plain : (r : Reply) → IsReply r → AllByRecursion IsPlain (reply_words r)
reply_plain replies.Granted is = (refl, tt)
reply_plain replies.Admitted is = (refl, tt)
reply_plain replies.Written is = (refl, tt)
reply_plain replies.Published is = (refl, tt)
reply_plain replies.Retired is = (refl, tt)
reply_plain (replies.Opened size) is = (refl, (number_plain size is, tt))
reply_plain replies.Fetched is = (refl, tt)
reply_plain replies.Reading is = (refl, tt)
reply_plain replies.Closed is = (refl, tt)
reply_plain replies.Unlinked is = (refl, tt)
reply_plain replies.Synced is = (refl, tt)
reply_plain (replies.Listed count) is = (number_plain count is, tt)
reply_plain replies.Unmounted is = (refl, tt)
reply_plain (replies.Stopped fault) is = (refl, (number_plain fault is, tt))
reply_plain replies.Exists is = (refl, tt)
reply_plain (replies.Leaving handles) is = (refl, (number_plain handles is, tt))
reply_plain replies.InFlight is = (refl, tt)
reply_plain (replies.NoSpace need room) is = (refl, (number_plain need is.0, (number_plain room is.1, tt)))
reply_plain (replies.NoNodes need free) is = (refl, (number_plain need is.0, (number_plain free is.1, tt)))
reply_plain replies.NumberEnd is = (refl, tt)
reply_plain (replies.DeviceFault fault) is = (refl, (number_plain fault is, tt))
reply_plain (replies.ReadFault fault) is = (refl, (number_plain fault is, tt))
reply_plain replies.NotFound is = (refl, tt)
reply_plain replies.SlotTaken is = (refl, tt)
reply_plain replies.BadSlot is = (refl, tt)

all_behind : (xs ys : Words) → AllByRecursion IsPlain xs → AllByRecursion IsPlain ys → AllByRecursion IsPlain (xs ++ ys)
all_behind [] ys p q = q
all_behind (x ∷ xs) ys p q = (p.0, all_behind xs ys p.1 q)

pub event_plain : (number : ℕ) (e : CoreEvent) → IsShort number → IsEvent e → AllByRecursion IsPlain (event_words number e)
event_plain number e short is =
    let calls : AllByRecursion IsPlain (calls_word e.calls ∷ []) = (number_plain e.calls is.calls, tt) in
    let replied : AllByRecursion IsPlain (reply_words e.reply ++ calls_word e.calls ∷ []) =
    all_behind (reply_words e.reply) (calls_word e.calls ∷ []) (reply_plain e.reply is.reply) calls in
    let deed : AllByRecursion IsPlain (deed_words e) =
    all_behind (act_words e.act) (reply_words e.reply ++ calls_word e.calls ∷ []) (act_plain e.act is.act) replied in
    (number_plain number short, (number_plain e.who.session is.session, (number_plain e.who.line is.line, deed)))
