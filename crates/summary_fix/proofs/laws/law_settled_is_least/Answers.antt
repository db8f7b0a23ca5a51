use Rattle.summary_fix.proofs.Returning.{table_agrees, table_returns}
use Rattle.summary_fix.proofs.Stepping.{least_table}
use Rattle.summary_fix.proofs.laws.law_settled_is_least.Goals as goal

pub returns-clause-least : goal.returns-clause-least
returns-clause-least c = λ m t sound full. least_table m sound.sealed.valid sound.sealed.no_float t sound full

pub returns-clause-holds : goal.returns-clause-holds
returns-clause-holds c = λ m W t exact sealed least.
    (table_agrees m sealed.valid sealed.no_float W exact t least, table_returns m sealed.valid sealed.no_float W exact t least)
