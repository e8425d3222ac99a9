pub mod ReaderMoves
