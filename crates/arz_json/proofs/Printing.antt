-- The data of a tree has no float, so its events have one text.
use Rattle.std.proofs.Common.{◌≡◌, ℕ, suc, ℤ, pos, negsuc, List, [], ◌∷◌, length, map, Some, false, ◌||◌, refl, sym, ap, ap₂, subst, ◌∙◌, rules}
use Rattle.serde.specs.Event.{Log, Logs, seq_begins, map_begins}
use Rattle.serde_json.specs.Data.{Items, Members, number, array, object}
use Rattle.serde_json.specs.Events.{items_len, members_len, SendsValue, SendsItems, SendsMembers}
use Rattle.arz_json.specs.declared.tree.Json.TheVariants.{Int}
use Rattle.serde_json.specs.Find.{is_float, of_integer}
use Rattle.serde_json.specs.View.{items_of}
use Rattle.serde_json.specs.Sent.{IsTextOf}
use Rattle.serde_json.specs.Written.{compact_text, has_float, items_have_float, members_have_float}
use Rattle.serde_json.proofs.FreeTexts.{text_of_value}
use Rattle.arz_json.specs.Writing.{data_of, named_values}
use Rattle.arz_json.specs.declared.tree.Json.{Json, the_lemmas}
use Rattle.arz_json.specs.declared.tree.Member.{Member}
use Rattle.arz_json.proofs.Induction.{induction, Each, EachValue}
use Rattle.arz_json.proofs.Layers.{data_of_list, data_of_object}

abbrev pub items_data : List Json → Items
items_data js = items_of (map data_of js)

abbrev pub members_data : List Member → Members
members_data ms = named_values (map (λ m. (m.name, data_of m.value)) ms)

abbrev IsPlain : Json → Type 0
IsPlain j = has_float (data_of j) ≡ false

integer_plain : (z : ℤ) → is_float (of_integer z) ≡ false
integer_plain (pos n) = refl
integer_plain (negsuc n) = refl

data_of_int : (z : ℤ) → data_of (Int z) ≡ number (of_integer z)
data_of_int z = search (rules, the_lemmas)

items_plain : (js : List Json) → Each IsPlain js → items_have_float (items_data js) ≡ false
items_plain [] h = refl
items_plain (j ∷ js) h = ap₂ (λ a b. a || b) h.0 (items_plain js h.1)

members_plain : (ms : List Member) → EachValue IsPlain ms → members_have_float (members_data ms) ≡ false
members_plain [] h = refl
members_plain (m ∷ ms) h = ap₂ (λ a b. a || b) h.0 (members_plain ms h.1)

pub has_float-data_of : (j : Json) → has_float (data_of j) ≡ false
has_float-data_of = induction IsPlain (record {
  null = search (rules, the_lemmas);
  flag = λ b. search (rules, the_lemmas);
  int = λ z. subst (λ d. has_float d ≡ false) (sym (data_of_int z)) (integer_plain z);
  text = λ s. search (rules, the_lemmas);
  list = λ js h. ap has_float (data_of_list js) ∙ items_plain js h;
  object = λ ms h. ap has_float (data_of_object ms) ∙ members_plain ms h;
  opaque = search (rules, the_lemmas);
})

items_len-items_data : (js : List Json) → items_len (items_data js) ≡ length js
items_len-items_data [] = refl
items_len-items_data (j ∷ js) = ap suc (items_len-items_data js)

members_len-members_data : (ms : List Member) → members_len (members_data ms) ≡ length ms
members_len-members_data [] = refl
members_len-members_data (m ∷ ms) = ap suc (members_len-members_data ms)

pub sends_list : (js : List Json) (n : ℕ) (old first new : Log) → n ≡ length js → Logs old first (seq_begins (Some n)) → SendsItems (items_data js) first new → SendsValue (array (items_data js)) old new
sends_list js n old first new len begun sent = (first, subst (λ k. Logs old first (seq_begins (Some k))) (len ∙ sym (items_len-items_data js)) begun, sent)

pub sends_object : (ms : List Member) (n : ℕ) (old first new : Log) → n ≡ length ms → Logs old first (map_begins (Some n)) → SendsMembers (members_data ms) first new → SendsValue (object (members_data ms)) old new
sends_object ms n old first new len begun sent = (first, subst (λ k. Logs old first (map_begins (Some k))) (len ∙ sym (members_len-members_data ms)) begun, sent)

-- what is printed for the events of a tree is its text
pub text_of_tree : (j : Json) (log : Log) (text : List ℕ) → SendsValue (data_of j) (Some []) log → IsTextOf log text → text ≡ compact_text (data_of j)
text_of_tree j log text sent h = text_of_value (data_of j) log text sent h (has_float-data_of j)
