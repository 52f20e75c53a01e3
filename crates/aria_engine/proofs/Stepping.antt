-- What a line does in memory, from what it spells.
use Rattle.std.proofs.Common.{◌≡◌, rules, ℕ, ◌≤◌, Bool, true, false, ◌&&◌, cond, nat_le, Option, Some, None, Result, Ok, Err, List, [], ◌++◌, length, take, refl, sym, ◌∙◌, ap, subst}
use Rattle.std.specs.Prelude.{not}
use Rattle.std.proofs.lemmas.List.{append-nil}
use Rattle.std.specs.Option.{option_map}
use Rattle.std.specs.List.{list_all, flat_map}
use Rattle.aria_model.specs.declared.refusal.Refusal.{Refusal}
use Rattle.aria_model.specs.declared.refusal.Refusal.TheVariants.{LineTooLong}
use Rattle.aria_model.specs.declared.refusal.Exception.{Exception}
use Rattle.aria_model.specs.declared.refusal.Exception.TheVariants.{Spent}
use Rattle.aria_model.specs.declared.reply.Reply.{Reply}
use Rattle.aria_model.specs.declared.reply.Reply.TheVariants.{No}
use Rattle.aria_model.specs.declared.statement.Statement.{Statement}
use Rattle.aria_model.specs.Token.{is_blank, tokens}
use Rattle.aria_model.specs.Grammar.{Tokens, read_line, is_blank_line, statement, ◌>>=◌}
use Rattle.aria_model.specs.Spelling.{Answers, spells, no_definition, first_bad, too_wide}
use Rattle.aria_model.specs.World.{World}
use Rattle.aria_model.specs.Step.{Outcome, answered, step, perform}
use Rattle.aria_model.specs.Script.{is_refused, outcome_text, acknowledged}
use Rattle.aria_model.specs.Journal.{changes, changes_read}
use Rattle.aria_model.specs.Text.{row_text, reply_text, IsOneLine}
use Rattle.aria_memory.specs.Performs.{Performs}
use Rattle.aria_memory.proofs.Kept.{no_plain}
use Rattle.aria_engine.specs.declared.store.Store.{Store}
use Rattle.aria_engine.specs.declared.tally.Tally.{Tally}
use Rattle.aria_engine.specs.Entries.{is_spent, is_log_spent, due}
use Rattle.aria_engine.specs.Store.{tables_of, pages_of}
use Rattle.aria_engine.specs.Turns.{exception_of, spent_of, Notes, Turned, Passed}
use Rattle.aria_model.proofs.Acknowledged.{statement_counts}
use Rattle.aria_model.proofs.Answering.{statement_answers}
use Rattle.aria_model.proofs.Journal.{spelled_length}
use Rattle.aria_model.proofs.Kept.{changes-refused, changes-accepted}
use Rattle.aria_engine.proofs.Spending.{met_free, met_due, never_due, none_due, accepted_free, changes_room}

-- what is read of a line that is short enough or not, of blanks alone or not, and spells a statement or none
abbrev reading : Bool → Bool → Result Statement Refusal → Result (Option Statement) Refusal
reading short blank spelled = cond (not short) (Err LineTooLong) (cond blank (Ok None) (spelled >>= λ s. Ok (Some s)))

blank_reading : (short blank : Bool) (spelled : Result Statement Refusal) → reading short blank spelled ≡ Ok None → (short && blank) ≡ true
blank_reading true true spelled h = refl
blank_reading true false (Ok s) h = cc
blank_reading true false (Err why) h = cc
blank_reading false blank spelled h = cc

statement_reading : (short blank : Bool) (spelled : Result Statement Refusal) (s : Statement) → reading short blank spelled ≡ Ok (Some s) → (short && blank) ≡ false
statement_reading true true spelled s h = cc
statement_reading true false spelled s h = refl
statement_reading false blank spelled s h = refl

refused_reading : (short blank : Bool) (spelled : Result Statement Refusal) (why : Refusal) → reading short blank spelled ≡ Err why → (short && blank) ≡ false
refused_reading true true spelled why h = cc
refused_reading true false spelled why h = refl
refused_reading false blank spelled why h = refl

blank_line : (line : List ℕ) → read_line line ≡ Ok None → is_blank_line line ≡ true
unfolding read_line
blank_line line h = blank_reading (nat_le (length line) 1048576) (list_all is_blank line) (statement (tokens line)) h

statement_line : (line : List ℕ) (s : Statement) → read_line line ≡ Ok (Some s) → is_blank_line line ≡ false
unfolding read_line
statement_line line s h = statement_reading (nat_le (length line) 1048576) (list_all is_blank line) (statement (tokens line)) s h

refused_line : (line : List ℕ) (why : Refusal) → read_line line ≡ Err why → is_blank_line line ≡ false
unfolding read_line
refused_line line why h = refused_reading (nat_le (length line) 1048576) (list_all is_blank line) (statement (tokens line)) why h

blank_reads : (short blank : Bool) (spelled : Result Statement Refusal) → (short && blank) ≡ true → reading short blank spelled ≡ Ok None
blank_reads true true spelled h = refl
blank_reads true false spelled h = cc
blank_reads false blank spelled h = cc

line_blank : (line : List ℕ) → is_blank_line line ≡ true → read_line line ≡ Ok None
unfolding read_line
line_blank line h = blank_reads (nat_le (length line) 1048576) (list_all is_blank line) (statement (tokens line)) h

-- a blank line meets no exception
pub blank_due : (w : World) (line : List ℕ) (pages : ℕ) → is_blank_line line ≡ true → due pages w line ≡ None
blank_due w line pages blank =
    ap (λ (b : Bool). cond (nat_le 524000 pages && b) (Some (Spent 1)) None) (ap (λ (r : Result (Option Statement) Refusal). is_log_spent (answered w r (Some (Spent 1))).reply) (line_blank line blank))
    ∙ never_due (nat_le 524000 pages)

-- the refusal of a line that spells no statement isn't that the log is spent
abbrev IsUnspent : Result Statement Refusal → Type 0
IsUnspent (Ok s) = Unit {0}
IsUnspent (Err why) = is_spent why ≡ false

answers_unspent : {ts : Tokens} {r : Result Statement Refusal} → Answers ts r → IsUnspent r
answers_unspent (spells s) = tt
answers_unspent (no_definition s) = refl
answers_unspent (first_bad b) = refl
answers_unspent (too_wide w) = refl

unspent_reading : (short blank : Bool) (spelled : Result Statement Refusal) (why : Refusal) → IsUnspent spelled → reading short blank spelled ≡ Err why → is_spent why ≡ false
unspent_reading true true spelled why unspent h = cc
unspent_reading true false (Ok s) why unspent h = cc
unspent_reading true false (Err other) why unspent h = let same : other ≡ why = cc in ap is_spent (sym same) ∙ unspent
unspent_reading false blank spelled why unspent h = let same : LineTooLong ≡ why = cc in ap is_spent (sym same)

refused_unspent : (line : List ℕ) (why : Refusal) → read_line line ≡ Err why → is_spent why ≡ false
unfolding read_line
refused_unspent line why h = unspent_reading (nat_le (length line) 1048576) (list_all is_blank line) (statement (tokens line)) why (answers_unspent (statement_answers line)) h

-- a blank line is passed
pub passed : (line : List ℕ) (before now : Store) → read_line line ≡ Ok None → now.log ≡ before.log → now.tally ≡ before.tally → tables_of now ≡ tables_of before → Passed line before now
passed line before now read log tally world = record { blank = blank_line line read; log = log; tally = tally; world = world }

-- A statement was performed, and its reply stands behind its rows.
pub turned : (line : List ℕ) (s : Statement) (before now : Store) (rows : List ℕ) (reply : Reply) (refused changed : Bool)
    → read_line line ≡ Ok (Some s)
    → Performs (tables_of before) s (option_map Spent (spent_of (pages_of before))) (tables_of now) [] rows reply
    → (changes s reply ≡ false → tables_of now ≡ tables_of before)
    → now.log ≡ before.log
    → Notes before.tally now.tally (exception_of (spent_of (pages_of before)) reply)
    → now.text ≡ rows ++ reply_text reply → IsOneLine (reply_text reply)
    → refused ≡ is_refused reply → changed ≡ changes s reply
    → Turned line before now refused changed
turned line s before now rows reply refused changed read performs still log notes text_is one refused_is changed_is =
    let w = tables_of before in
    let room = spent_of (pages_of before) in
    let x : Option Exception = exception_of room reply in
    let same : perform w s (option_map Spent room) ≡ perform w s x = met_free w s room reply performs.reply in
    let reply_is : reply ≡ (perform w s x).reply = performs.reply ∙ ap (λ (o : Outcome). o.reply) same in
    let steps : step w line x ≡ answered w (Ok (Some s)) x = ap (λ (r : Result (Option Statement) Refusal). answered w r x) read in
    let rows_are : rows ≡ flat_map row_text (perform w s x).rows = performs.rows ∙ ap (λ (o : Outcome). flat_map row_text o.rows) same in
    let text : now.text ≡ flat_map row_text (perform w s x).rows ++ reply_text reply = text_is ∙ ap (λ (l : List ℕ). l ++ reply_text reply) rows_are in
    let free : changed ≡ true → x ≡ None = λ (h : changed ≡ true). accepted_free room reply (changes-accepted s reply (sym changed_is ∙ h)) in
    record {
      some = statement_line line s read;
      log = log;
      exception = x;
      is_due = met_due w s line (pages_of before) reply read performs.reply;
      notes = notes;
      world = performs.world ∙ ap (λ (o : Outcome). o.world) same ∙ ap (λ (o : Outcome). o.world) (sym steps);
      text = text ∙ ap (λ (r : Reply). flat_map row_text (perform w s x).rows ++ reply_text r) reply_is ∙ ap outcome_text (sym steps);
      refused_is = refused_is ∙ ap is_refused reply_is ∙ ap (λ (o : Outcome). is_refused o.reply) (sym steps);
      acked = λ n. subst (λ (t : List ℕ). acknowledged (take n t) ≤ 1) (sym text) (statement_counts (perform w s x).rows (reply_text reply) n one);
      still = λ h. still (sym changed_is ∙ h);
      quiet = λ h. changed_is ∙ changes-refused s reply (sym refused_is ∙ h);
      changes = λ h. (
        free h,
        ap (λ (r : Result (Option Statement) Refusal). changes_read w r None) read ∙ ap (λ (e : Option Exception). changes s (perform w s e).reply) (sym (free h)) ∙ ap (changes s) (sym reply_is) ∙ sym changed_is ∙ h,
      );
      frame = λ h. let fits = spelled_length line s read in record { some = fits.0; fits = fits.1 };
      room = λ h. changes_room w s (pages_of before) reply (no_plain before.tables) performs.reply (sym changed_is ∙ h);
    }

-- A refused line's reply is told.
pub turned_refused : (line : List ℕ) (why : Refusal) (before now : Store)
    → read_line line ≡ Err why
    → tables_of now ≡ tables_of before
    → now.log ≡ before.log
    → Notes before.tally now.tally None
    → now.text ≡ reply_text (No why) → IsOneLine (reply_text (No why))
    → Turned line before now true false
turned_refused line why before now read world log notes text_is one =
    let w = tables_of before in
    let steps : step w line None ≡ answered w (Err why) None = ap (λ (r : Result (Option Statement) Refusal). answered w r None) read in
    record {
      some = refused_line line why read;
      log = log;
      exception = None;
      is_due = sym (none_due w line why (pages_of before) read (refused_unspent line why read));
      notes = notes;
      world = world ∙ ap (λ (o : Outcome). o.world) (sym steps);
      text = text_is ∙ ap outcome_text (sym steps);
      refused_is = ap (λ (o : Outcome). is_refused o.reply) (sym steps);
      acked = λ n. subst (λ (t : List ℕ). acknowledged (take n t) ≤ 1) (sym text_is) (statement_counts [] (reply_text (No why)) n one);
      still = λ _. world;
      quiet = λ _. refl;
      changes = λ h. absurd (cc);
      frame = λ h. absurd (cc);
      room = λ h. absurd (cc);
    }
