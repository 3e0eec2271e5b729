-- The books of the worked examples.
use Rattle.std.specs.Prelude.{ℕ, List, [], ◌∷◌}
use Rattle.books.specs.Book.{Model}
use Rattle.book_sheets.specs.Content.{Step, Content, model_of}
use Rattle.racks.specs.Rack.{rack_model}

-- 2 loggers and 1 bath. Facts: 0 and 1 logger 0 and 1 in the bath, 2 and 3 on the shelf, 4 the bath settled, 5 and 6 read.
-- Steps: 0 and 1 put logger 0 and 1 in, 2 and 3 take out, 4 and 5 read, 6 settle
abbrev pub rack : Model
rack = rack_model 2 1

-- a step of no time: what it needs, adds and deletes
abbrev pub step : List ℕ → List ℕ → List ℕ → Step
step needs adds deletes = record { needs = needs; adds = adds; deletes = deletes; seconds = 0 }

-- facts a, b, c and d are 0, 1, 2 and 3; steps A, B and C are 0, 1 and 2.
-- A needs a and adds b; B needs a, adds c and deletes a; C needs b and c and adds d
abbrev pub one_order_says : Content
one_order_says = record {
  facts = 4;
  steps = step (0 ∷ []) (1 ∷ []) [] ∷ step (0 ∷ []) (2 ∷ []) (0 ∷ []) ∷ step (1 ∷ 2 ∷ []) (3 ∷ []) [] ∷ [];
}

abbrev pub one_order_book : Model
one_order_book = model_of one_order_says

-- steps X, Y and Z are 0, 1 and 2: X needs 0 and deletes 1, Y needs 1 and deletes 2, Z needs 2 and deletes 0
abbrev pub ring_says : Content
ring_says = record {
  facts = 3;
  steps = step (0 ∷ []) [] (1 ∷ []) ∷ step (1 ∷ []) [] (2 ∷ []) ∷ step (2 ∷ []) [] (0 ∷ []) ∷ [];
}

abbrev pub ring : Model
ring = model_of ring_says
