-- What a spent log changes of a statement.
use Rattle.std.proofs.Common.{◌≡◌, inl, inr, ℕ, ◌<◌, List, Bool, true, false, ◌&&◌, cond, nat_le, Option, Some, None, Result, Ok, Err, refl, sym, ◌∙◌, ap, arith}
use Rattle.std.specs.Prelude.{not}
use Rattle.std.specs.Option.{option_map}
use Rattle.std.proofs.lemmas.Bool.{cases_lt, cases_Bool}
use Rattle.std.proofs.lemmas.Bool.Decides.{nat_tests}
use Rattle.aria_model.specs.declared.refusal.Refusal.TheVariants.{LogSpent}
use Rattle.aria_model.specs.declared.refusal.Exception.TheVariants.{Spent}
use Rattle.aria_model.specs.declared.reply.Reply.{Reply}
use Rattle.aria_model.specs.declared.reply.Reply.TheVariants.{Done, Count, No}
use Rattle.aria_model.specs.declared.statement.Statement.{Statement}
use Rattle.aria_model.specs.World.{World}
use Rattle.aria_model.specs.Step.{perform}
use Rattle.aria_model.specs.Script.{is_refused}
use Rattle.aria_model.specs.Journal.{changes}
use Rattle.aria_model.proofs.Kept.{HasNoPlain}
use Rattle.aria_model.proofs.SpentLog.{perform-free, spent-refuses}
use Rattle.aria_model.specs.Step.{answered, step}
use Rattle.aria_model.specs.Grammar.{read_line}
use Rattle.aria_model.specs.declared.refusal.Refusal.{Refusal}
use Rattle.aria_engine.specs.Entries.{is_spent, is_log_spent, due}
use Rattle.aria_engine.specs.Turns.{exception_of, spent_of}

-- A statement did what its exception makes it do.
pub met_free : (w : World) (s : Statement) (room : Option ℕ) (reply : Reply) → reply ≡ (perform w s (option_map Spent room)).reply
    → perform w s (option_map Spent room) ≡ perform w s (exception_of room reply)
met_free w s None reply is = refl
met_free w s (Some f) reply is = elim (cases_Bool (is_log_spent reply)) [
  | inl yes' ↦ ap (λ (b : Bool). perform w s (cond b (Some (Spent f)) None)) (sym yes')
  | inr no' ↦
      perform-free w s f (λ (e : (perform w s (Some (Spent f))).reply ≡ No (LogSpent f)). absurd (differ (sym no' ∙ ap is_log_spent (is ∙ e))))
      ∙ ap (λ (b : Bool). perform w s (cond b (Some (Spent f)) None)) (sym no')
]
  where
    differ : false ≡ true → ⊥
    differ e = cc

-- the exception that a statement met was due
pub met_due : (w : World) (s : Statement) (line : List ℕ) (pages : ℕ) (reply : Reply) → read_line line ≡ Ok (Some s) → reply ≡ (perform w s (option_map Spent (spent_of pages))).reply
    → exception_of (spent_of pages) reply ≡ due pages w line
met_due w s line pages reply read is = elim (cases_lt pages 524000) [
  | inl below ↦
      let test : nat_le 524000 pages ≡ false = grind (arith, nat_tests) in
      ap (λ (b : Bool). exception_of (cond b (Some 1) None) reply) test ∙ sym (ap (λ (b : Bool). cond (b && refuses) (Some (Spent 1)) None) test)
  | inr full ↦
      let test : nat_le 524000 pages ≡ true = grind (arith, nat_tests) in
      let here : reply ≡ (perform w s (Some (Spent 1))).reply = is ∙ ap (λ (b : Bool). (perform w s (option_map Spent (cond b (Some 1) None))).reply) test in
      let same : reply ≡ (step w line (Some (Spent 1))).reply = here ∙ ap (λ (r : Result (Option Statement) Refusal). (answered w r (Some (Spent 1))).reply) (sym read) in
      ap (λ (b : Bool). exception_of (cond b (Some 1) None) reply) test ∙ ap (λ (r : Reply). cond (is_log_spent r) (Some (Spent 1)) None) same
      ∙ sym (ap (λ (b : Bool). cond (b && refuses) (Some (Spent 1)) None) test)
]
  where
    refuses : Bool
    refuses = is_log_spent (step w line (Some (Spent 1))).reply

pub never_due : (full : Bool) → cond (full && false) (Some (Spent 1)) None ≡ None
never_due true = refl
never_due false = refl

-- a line that spells no statement meets none
pub none_due : (w : World) (line : List ℕ) (why : Refusal) (pages : ℕ) → read_line line ≡ Err why → is_spent why ≡ false → due pages w line ≡ None
none_due w line why pages read other =
    ap (λ (b : Bool). cond (nat_le 524000 pages && b) (Some (Spent 1)) None) (ap (λ (r : Result (Option Statement) Refusal). is_log_spent (answered w r (Some (Spent 1))).reply) read ∙ other)
    ∙ never_due (nat_le 524000 pages)

-- an accepted statement met none
pub accepted_free : (room : Option ℕ) (reply : Reply) → not (is_refused reply) ≡ true → exception_of room reply ≡ None
accepted_free None reply accepted = refl
accepted_free (Some f) Done accepted = refl
accepted_free (Some f) (Count n) accepted = refl
accepted_free (Some f) (No why) accepted = absurd (cc)

-- a statement that changes tables found room
pub changes_room : (w : World) (s : Statement) (pages : ℕ) (reply : Reply) → HasNoPlain w → reply ≡ (perform w s (option_map Spent (spent_of pages))).reply → changes s reply ≡ true → pages < 524000
changes_room w s pages reply plain is changed = elim (cases_lt pages 524000) [
  | inl below ↦ below
  | inr full ↦
      let test : nat_le 524000 pages ≡ true = grind (arith, nat_tests) in
      let here : reply ≡ (perform w s (Some (Spent 1))).reply = is ∙ ap (λ (b : Bool). (perform w s (option_map Spent (cond b (Some 1) None))).reply) test in
      absurd (differ (sym (ap (changes s) here ∙ spent-refuses w s 1 plain) ∙ changed))
]
  where
    differ : false ≡ true → ⊥
    differ e = cc
